use Rattle.history.specs.Past.{past}
use Rattle.following_ranges.proofs.FollowLemmas.{due_is_own}
use Rattle.following_ranges.proofs.asking.due_for.Goals as goal

pub returns-in-Some-clause-own : goal.returns-in-Some-clause-own
returns-in-Some-clause-own g c =
    due_is_own c.args.device.now.plan (past c.args.device.now.steps) c.args.control c.args.followers.now c.values.result.now c.range.result.now c.in-Some.wanted c.requires c.range.ensures c.in-Some.ensures.range c.in-Some.ensures.well_formed
