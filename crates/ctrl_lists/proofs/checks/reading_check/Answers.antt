-- written out so that a wrong body is refused soon (docs/GATE.md)
use Rattle.std.proofs.Common.{rules}
use Rattle.ctrl_lists.proofs.checks.reading_check.Goals as goal

pub returns-else-contains : goal.returns-else-contains
returns-else-contains g c = search rules

pub returns-then-contains : goal.returns-then-contains
returns-then-contains g c = search rules
