use Rattle.std.proofs.Common.{rules, refl, length}
use Rattle.ctrl_handlers.proofs.ReachLemmas.{among_controls}
use Rattle.frame_forecast.proofs.SparseLemmas.{sources_among}
use Rattle.frame_forecast.proofs.moving.can_move.Goals as goal

pub follows_touched-requires : goal.follows_touched-requires
follows_touched-requires g c =
    sources_among (length c.args.plan.now.controls) c.args.plan.now.followers c.args.control c.in-Some.follower (among_controls c.args.plan.now (length c.args.plan.now.controls) c.requires.plan.is_plan refl) (search rules)
