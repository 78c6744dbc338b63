use Rattle.std.proofs.Common.{◌∙◌, ap, List, length, subst, sym}
use Rattle.range_followers.specs.declared.follower.Follower.{Follower}
use Rattle.ctrl_handlers.specs.Plan.{AreAmong, control_in}
use Rattle.ctrl_handlers.proofs.ReachLemmas.{among_controls}
use Rattle.ctrl_clusters.specs.Following.{range_under}
use Rattle.ctrl_clusters.specs.Ranges.{HasRangeFor}
use Rattle.frame_forecast.specs.Sparse.{values_upto}
use Rattle.frame_forecast.proofs.LoadLemmas.{range_fits}
use Rattle.frame_forecast.proofs.loading.load_control.Goals as goal

pub range_before-range-requires-clause-followers : goal.range_before-range-requires-clause-followers
range_before-range-requires-clause-followers g c =
    subst (λ (fs : List Follower). AreAmong (length c.args.at.now.values.now) fs) (sym c.followers.ensures) (among_controls c.args.at.now.plan.now (length c.args.at.now.values.now) c.args.at.now.planned.is_plan c.args.at.now.valued)

pub modify-requires-clause-same : goal.modify-requires-clause-same
modify-requires-clause-same g c =
    subst (HasRangeFor (control_in c.args.ranges.now c.args.control)) (ap (λ (fs : List Follower). range_under fs c.args.at.now.ranges.now (values_upto c.args.at.now.values.now c.args.frames.now c.args.place) c.args.control) (sym c.followers.ensures) ∙ sym c.range_before-range.ensures)
    (range_fits c.args.at.now.plan.now c.args.at.now.ranges.now c.args.ranges.now (values_upto c.args.at.now.values.now c.args.frames.now c.args.place) c.args.control c.args.at.now.ranged c.requires.ranges c.requires.control)
