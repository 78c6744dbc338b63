-- written out so that a wrong body is refused soon (docs/GATE.md)
use Rattle.std.proofs.Common.{rules}
use Rattle.range_followers.proofs.wanted.range_due.Goals as goal

pub returns-clause-range : goal.returns-clause-range
returns-clause-range c = search rules
