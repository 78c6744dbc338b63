use Rattle.std.proofs.Common.{rules, ◌≡◌, ◌∙◌, ◌+◌, ap, sym, subst, List, get_or, cond, slice_set}
use Rattle.ctrl_types.specs.Values.{zero_value}
use Rattle.ctrl_types.specs.declared.value.CtrlValue.{CtrlValue}
use Rattle.ctrl_clusters.specs.Rows.{Values, row_of, value_at}
use Rattle.frame_forecast.specs.Sparse.{SparseFrame, sparse_at, values_upto, with_given}
use Rattle.frame_forecast.proofs.GivenLemmas.{IsGiving, giving_next, row_long}
use Rattle.frame_forecast.proofs.renewal.give_row.Goals as goal

pub loop-index-preserved : goal.loop-index-preserved
loop-index-preserved c =
    let vs : Values = c.args.values.now in
    let old : List SparseFrame = c.args.frames.now.items in
    let fs : List SparseFrame = c.loop-index.frames.items in
    let p = c.args.place in
    let ms : List _ = c.args.members.now in
    let i = c.loop-index.index in
    let row : List CtrlValue = cond c.args.is_settled c.args.row.now (row_of (values_upto vs old p) ms) in
    let v : c.value_in_row-value.result ≡ get_or row i zero_value =
    c.value_in_row-value.ensures
    ∙ ap (λ (l : List SparseFrame). value_at (cond c.args.is_settled c.args.row.now (row_of (values_upto vs l p) ms)) i) c.as_slice.ensures.value
    ∙ ap (λ (b : Values). value_at (cond c.args.is_settled c.args.row.now (row_of b ms)) i) c.loop-index.invariant.base in
    let here : c.index_mut-frame.result.now ≡ sparse_at fs p = search rules in
    let next : c.set_given.new.self ≡ with_given (sparse_at fs p) (get_or ms i 0) (get_or row i zero_value) =
    c.set_given.ensures ∙ ap (λ (f : SparseFrame). with_given f (get_or ms i 0) c.value_in_row-value.result) here ∙ ap (with_given (sparse_at fs p) (get_or ms i 0)) v in
    subst (λ (f : SparseFrame). IsGiving vs old (slice_set fs p f) p ms row (i + 1)) (sym next)
    (giving_next vs old fs p ms row i c.requires.place c.loop-index-test.true (row_long c.args.is_settled c.args.row.now (values_upto vs old p) ms c.requires.row) c.loop-index.invariant)
