use Rattle.std.proofs.Common.{rules, ◌≡◌, ◌∙◌, ◌≤◌, ap, sym, subst, List, ℕ, length, cond, slice_set}
use Rattle.std.proofs.lemmas.List.{get_or-set_same, set-set}
use Rattle.ctrl_types.specs.declared.value.CtrlValue.{CtrlValue}
use Rattle.ctrl_handlers.specs.Plan.{members}
use Rattle.ctrl_clusters.specs.Rows.{row_of}
use Rattle.ctrl_clusters.specs.Rising.{with_or_without}
use Rattle.frame_forecast.specs.Sparse.{SparseFrame, no_sparse_frame, sparse_at, values_upto, with_row_given}
use Rattle.frame_forecast.proofs.GivenLemmas.{given_named, given_refused}
use Rattle.frame_forecast.proofs.renewal.give_outcome.Goals as goal

pub set_refused-requires : goal.set_refused-requires
set_refused-requires g c =
    let old : List SparseFrame = c.args.frames.now.items in
    let p = c.args.place in
    let ms : List ℕ = members c.args.at.now.plan.now c.args.cluster in
    let row : List CtrlValue = cond c.args.is_settled c.args.row.now (row_of (values_upto c.args.at.now.values.now old p) ms) in
    let made : SparseFrame = with_row_given (sparse_at old p) ms row in
    let now : c.give_row.new.frames.items ≡ slice_set old p made =
    c.give_row.ensures
    ∙ ap (λ (cs : List ℕ). slice_set old p (with_row_given (sparse_at old p) cs (cond c.args.is_settled c.args.row.now (row_of (values_upto c.args.at.now.values.now old p) cs)))) c.members.ensures.members in
    let here : c.index_mut-frame.result.now ≡ made =
    (search rules) ∙ ap (λ (l : List SparseFrame). sparse_at l p) now ∙ get_or-set_same old p made no_sparse_frame c.requires.place in
    record {
      room =
          subst (λ (f : SparseFrame). length (with_or_without c.args.cluster c.args.is_refused f.refused) ≤ length f.named) (sym here)
          (subst (λ (r : List ℕ). length (with_or_without c.args.cluster c.args.is_refused r) ≤ length made.named) (sym (given_refused (sparse_at old p) ms row))
          (subst (λ (n : List ℕ). length (with_or_without c.args.cluster c.args.is_refused (sparse_at old p).refused) ≤ length n) (sym (given_named (sparse_at old p) ms row)) c.requires.room));
    }

pub returns : goal.returns
returns g c =
    let old : List SparseFrame = c.args.frames.now.items in
    let p = c.args.place in
    let ms : List ℕ = members c.args.at.now.plan.now c.args.cluster in
    let row : List CtrlValue = cond c.args.is_settled c.args.row.now (row_of (values_upto c.args.at.now.values.now old p) ms) in
    let made : SparseFrame = with_row_given (sparse_at old p) ms row in
    let now : c.give_row.new.frames.items ≡ slice_set old p made =
    c.give_row.ensures
    ∙ ap (λ (cs : List ℕ). slice_set old p (with_row_given (sparse_at old p) cs (cond c.args.is_settled c.args.row.now (row_of (values_upto c.args.at.now.values.now old p) cs)))) c.members.ensures.members in
    let here : c.index_mut-frame.result.now ≡ made =
    (search rules) ∙ ap (λ (l : List SparseFrame). sparse_at l p) now ∙ get_or-set_same old p made no_sparse_frame c.requires.place in
    let last : c.set_refused.new.self ≡ record made { refused = with_or_without c.args.cluster c.args.is_refused (sparse_at old p).refused } =
    c.set_refused.ensures
    ∙ ap (λ (f : SparseFrame). record f { refused = with_or_without c.args.cluster c.args.is_refused f.refused }) here
    ∙ ap (λ (r : List ℕ). record made { refused = with_or_without c.args.cluster c.args.is_refused r }) (given_refused (sparse_at old p) ms row) in
    ap (λ (l : List SparseFrame). slice_set l p c.set_refused.new.self) now ∙ set-set old p made c.set_refused.new.self ∙ ap (slice_set old p) last
