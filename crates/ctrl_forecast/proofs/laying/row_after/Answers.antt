-- written out so that a wrong body is refused soon (docs/GATE.md)
use Rattle.std.proofs.Common.{rules}
use Rattle.ctrl_forecast.proofs.laying.row_after.Goals as goal

pub returns-then-not-is_touched-clause-asked : goal.returns-then-not-is_touched-clause-asked
returns-then-not-is_touched-clause-asked g c = search rules
