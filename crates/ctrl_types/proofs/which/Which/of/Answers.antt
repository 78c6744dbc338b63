-- written out so that a wrong body is refused soon (docs/GATE.md)
use Rattle.std.proofs.Common.{rules}
use Rattle.ctrl_types.proofs.which.Which.of.Goals as goal

pub returns-in_default : goal.returns-in_default
returns-in_default c = search rules
