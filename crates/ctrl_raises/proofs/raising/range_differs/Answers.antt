-- written out so that a wrong body is refused soon (docs/GATE.md)
use Rattle.std.proofs.Common.{rules}
use Rattle.ctrl_raises.proofs.raising.range_differs.Goals as goal

pub returns-else-step : goal.returns-else-step
returns-else-step c = search rules
