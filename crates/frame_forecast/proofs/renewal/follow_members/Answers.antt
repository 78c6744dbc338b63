use Rattle.std.proofs.Common.{◌≡◌, ◌∙◌, ◌+◌, ap, sym, subst, List, ℕ, suc, get_or, slice_set, arith}
use Rattle.frame_forecast.specs.Sparse.{SparseFrame, followed_given, sparse_at, values_upto}
use Rattle.frame_forecast.proofs.SettlingLemmas.{IsSettling, settling_next}
use Rattle.frame_forecast.proofs.renewal.follow_members.Goals as goal

pub loop-member-preserved : goal.loop-member-preserved
loop-member-preserved g c =
    let fs : List SparseFrame = c.loop-member.frames.items in
    let p = c.args.place in
    let behind : suc p ≡ p + 1 = omega arith in
    let next : slice_set fs p (followed_given c.args.at.now.plan.now c.args.at.now.ranges.now (values_upto c.args.at.now.values.now fs (suc p)) (get_or c.args.members.now c.loop-member.member-index 0) (sparse_at fs p)) ≡ c.follow_given.new.frames.items =
    ap (λ (n : ℕ). slice_set fs p (followed_given c.args.at.now.plan.now c.args.at.now.ranges.now (values_upto c.args.at.now.values.now fs n) (get_or c.args.members.now c.loop-member.member-index 0) (sparse_at fs p))) behind
    ∙ sym c.follow_given.ensures in
    subst (λ (l : List SparseFrame). IsSettling c.args.at.now.plan.now c.args.at.now.ranges.now c.args.at.now.values.now c.args.frames.now.items l p c.args.members.now (c.loop-member.member-index + 1)) next
    (settling_next c.args.at.now.plan.now c.args.at.now.ranges.now c.args.at.now.values.now c.args.frames.now.items fs p c.args.members.now c.loop-member.member-index
    c.args.at.now.planned.is_plan c.requires.place c.args.at.now.valued c.loop-member-test.true c.loop-member.invariant)
