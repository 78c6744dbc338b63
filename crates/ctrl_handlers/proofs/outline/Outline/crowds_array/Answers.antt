-- written out so that a wrong body is refused soon (docs/GATE.md)
use Rattle.std.proofs.Common.{rules}
use Rattle.ctrl_handlers.proofs.outline.Outline.crowds_array.Goals as goal

pub returns-else-is_shared : goal.returns-else-is_shared
returns-else-is_shared c = search rules
