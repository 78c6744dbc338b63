use Rattle.std.proofs.Common.{◌≡◌, ◌∙◌, ◌+◌, ap, sym, subst, List, ℕ, suc, get_or, slice_set, arith}
use Rattle.ctrl_handlers.specs.Plan.{members}
use Rattle.frame_forecast.specs.Sparse.{SparseFrame, followed_members, sparse_at, values_upto}
use Rattle.frame_forecast.proofs.SettlingLemmas.{IsSettlingAll, settling_all_next}
use Rattle.frame_forecast.proofs.renewal.follow_clusters.Goals as goal

pub loop-cluster-preserved : goal.loop-cluster-preserved
loop-cluster-preserved g c =
    let fs : List SparseFrame = c.loop-cluster.frames.items in
    let p = c.args.place in
    let k : ℕ = get_or c.args.clusters.now c.loop-cluster.cluster-index 0 in
    let behind : suc p ≡ p + 1 = omega arith in
    let next : slice_set fs p (followed_members c.args.at.now.plan.now c.args.at.now.ranges.now (values_upto c.args.at.now.values.now fs (suc p)) (members c.args.at.now.plan.now k) (sparse_at fs p)) ≡ c.follow_members.new.frames.items =
    ap (λ (n : ℕ). slice_set fs p (followed_members c.args.at.now.plan.now c.args.at.now.ranges.now (values_upto c.args.at.now.values.now fs n) (members c.args.at.now.plan.now k) (sparse_at fs p))) behind
    ∙ sym (c.follow_members.ensures
    ∙ ap (λ (cs : List ℕ). slice_set fs p (followed_members c.args.at.now.plan.now c.args.at.now.ranges.now (values_upto c.args.at.now.values.now fs (p + 1)) cs (sparse_at fs p))) c.members.ensures.members) in
    subst (λ (l : List SparseFrame). IsSettlingAll c.args.at.now.plan.now c.args.at.now.ranges.now c.args.at.now.values.now c.args.frames.now.items l p c.args.clusters.now (c.loop-cluster.cluster-index + 1)) next
    (settling_all_next c.args.at.now.plan.now c.args.at.now.ranges.now c.args.at.now.values.now c.args.frames.now.items fs p c.args.clusters.now c.loop-cluster.cluster-index
    c.args.at.now.planned.is_plan c.requires.place c.args.at.now.valued c.loop-cluster-test.true c.loop-cluster.invariant)
