use Rattle.std.proofs.Common.{◌≡◌, ◌∙◌, ◌<◌, ◌≤◌, ◌+◌, ◌-◌, ℕ, List, length, slice_set, ap, refl, subst, sym, arith}
use Rattle.std.specs.List.{All}
use Rattle.std.proofs.lemmas.List.{get_or_default}
use Rattle.ctrl_clusters.specs.Moments.{parts}
use Rattle.ctrl_forecast.specs.Touched.{touched_count}
use Rattle.frame_forecast.specs.Kept.{IsKeptSparse}
use Rattle.frame_forecast.specs.Sparse.{SparseFrame, no_sparse_frame, sparse_at, values_upto, worked_out}
use Rattle.frame_forecast.proofs.BoardLemmas.{kept_reach, lent_asked, lent_frame}
use Rattle.frame_forecast.proofs.board.renew_last.Goals as goal

-- they are clusters of the plan
pub renew_frame-requires-clause-clusters : goal.renew_frame-requires-clause-clusters
renew_frame-requires-clause-clusters g c =
    let place : c.len-place.result - 1 ≡ length c.args.frames.now.items - 1 = omega (arith, c.len-place.ensures) in
    let own : c.index_mut-last.result.now ≡ sparse_at c.args.frames.now.items (length c.args.frames.now.items - 1) =
    c.index_mut-last.ensures.value
    ∙ get_or_default c.args.frames.now.items (c.len-place.result - 1) c.index_mut-last.result.now no_sparse_frame (omega (arith, c.requires.some, c.len-place.ensures))
    ∙ ap (sparse_at c.args.frames.now.items) place in
    subst (All (λ k. k < length c.args.at.now.plan.now.clusters)) (sym (c.as_slice.ensures.value ∙ c.take_reached-reached.ensures.reached ∙ ap (λ (f : SparseFrame). f.reached) own))
    (kept_reach c.args.at.now.plan.now (sparse_at c.args.frames.now.items (length c.args.frames.now.items - 1)) c.args.at.now.planned c.requires.kept).known

-- the last frame is worked out
pub returns-clause-frames : goal.returns-clause-frames
returns-clause-frames g c =
    let place : c.len-place.result - 1 ≡ length c.args.frames.now.items - 1 = omega (arith, c.len-place.ensures) in
    let there : c.len-place.result - 1 < length c.args.frames.now.items = omega (arith, c.requires.some, c.len-place.ensures) in
    lent_frame g.D.Validates.verdict c.args.at.now.plan.now (parts c.args.at.now) c.args.frames.now.items (slice_set c.args.frames.now.items (c.len-place.result - 1) c.take_reached-reached.new.self) c.renew_frame.new.frames.items (c.len-place.result - 1)
    c.index_mut-last.result.now c.take_reached-reached.new.self c.index_mut-last-2.result.now c.set_reached.new.self c.as_slice.result.now there
    (c.index_mut-last.ensures.value ∙ get_or_default c.args.frames.now.items (c.len-place.result - 1) c.index_mut-last.result.now no_sparse_frame there) c.take_reached-reached.ensures.rest refl
    (c.as_slice.ensures.value ∙ c.take_reached-reached.ensures.reached) c.renew_frame.ensures.frames
    (λ lt. c.index_mut-last-2.ensures.value ∙ get_or_default c.renew_frame.new.frames.items (c.len-place.result - 1) c.index_mut-last-2.result.now no_sparse_frame lt)
    (c.set_reached.ensures ∙ ap (λ (l : List ℕ). record c.index_mut-last-2.result.now { reached = l }) (sym c.as_slice.ensures.value))
    ∙ ap (λ (n : ℕ). slice_set c.args.frames.now.items n (worked_out g.D.Validates.verdict c.args.at.now.plan.now (parts c.args.at.now) (values_upto c.args.at.now.values.now c.args.frames.now.items n) (sparse_at c.args.frames.now.items n))) place

-- by as many questions as clusters are touched
pub returns-clause-asked : goal.returns-clause-asked
returns-clause-asked g c =
    let place : c.len-place.result - 1 ≡ length c.args.frames.now.items - 1 = omega (arith, c.len-place.ensures) in
    let there : c.len-place.result - 1 < length c.args.frames.now.items = omega (arith, c.requires.some, c.len-place.ensures) in
    omega (
      arith,
      c.renew_frame.ensures.asked,
      lent_asked c.args.at.now.plan.now c.args.frames.now.items (slice_set c.args.frames.now.items (c.len-place.result - 1) c.take_reached-reached.new.self) (c.len-place.result - 1) c.index_mut-last.result.now c.take_reached-reached.new.self c.as_slice.result.now there
          (c.index_mut-last.ensures.value ∙ get_or_default c.args.frames.now.items (c.len-place.result - 1) c.index_mut-last.result.now no_sparse_frame there) c.take_reached-reached.ensures.rest refl
          (c.as_slice.ensures.value ∙ c.take_reached-reached.ensures.reached) (subst (λ (n : ℕ). IsKeptSparse c.args.at.now.plan.now (sparse_at c.args.frames.now.items n)) (sym place) c.requires.kept),
      ap (λ (n : ℕ). touched_count c.args.at.now.plan.now (sparse_at c.args.frames.now.items n).asked) place,
    )
