-- written out so that a wrong body is refused soon (docs/GATE.md)
use Rattle.std.proofs.Common.{rules}
use Rattle.ctrl_settle.proofs.control.Ctrl.new_array.Goals as goal

pub returns-clause-value : goal.returns-clause-value
returns-clause-value c = search rules
