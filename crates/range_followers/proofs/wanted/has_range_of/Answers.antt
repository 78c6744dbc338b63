-- written out so that a wrong body is refused soon (docs/GATE.md)
use Rattle.std.proofs.Common.{rules}
use Rattle.range_followers.proofs.wanted.has_range_of.Goals as goal

pub returns-then-maximum : goal.returns-then-maximum
returns-then-maximum c = search rules
