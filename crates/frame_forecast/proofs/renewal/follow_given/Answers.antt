use Rattle.std.proofs.Common.{List, length, subst, sym}
use Rattle.range_followers.specs.declared.follower.Follower.{Follower}
use Rattle.ctrl_handlers.specs.Plan.{AreAmong}
use Rattle.ctrl_handlers.proofs.ReachLemmas.{among_controls}
use Rattle.frame_forecast.proofs.renewal.follow_given.Goals as goal

pub range_before-range-requires-clause-followers : goal.range_before-range-requires-clause-followers
range_before-range-requires-clause-followers g c =
    subst (λ (fs : List Follower). AreAmong (length c.args.at.now.values.now) fs) (sym c.followers.ensures) (among_controls c.args.at.now.plan.now (length c.args.at.now.values.now) c.args.at.now.planned.is_plan c.args.at.now.valued)
