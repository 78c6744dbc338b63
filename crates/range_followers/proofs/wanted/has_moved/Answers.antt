-- written out so that a wrong body is refused soon (docs/GATE.md)
use Rattle.std.proofs.Common.{rules}
use Rattle.range_followers.proofs.wanted.has_moved.Goals as goal

pub returns-else-source_moved-2 : goal.returns-else-source_moved-2
returns-else-source_moved-2 c = search rules
