use Rattle.std.proofs.Common.{rules}
use Rattle.following_ranges.proofs.FollowLemmas.{run_nothing}
use Rattle.following_ranges.proofs.asking.follow.Goals as goal

pub returns-else-are_asked-clause-run : goal.returns-else-are_asked-clause-run
returns-else-are_asked-clause-run g c = run_nothing g.D.Validates.verdict c.args.device.now c.args.seat c.args.asked.now.items c.requires.none

-- written out so that a wrong body is refused soon (docs/GATE.md)
pub returns-then-are_asked-clause-owes : goal.returns-then-are_asked-clause-owes
returns-then-are_asked-clause-owes g c = search rules
