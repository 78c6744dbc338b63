-- written out so that a wrong body is refused soon (docs/GATE.md)
use Rattle.std.proofs.Common.{rules}
use Rattle.ctrl_forecast.proofs.frame.Frame.set_row.Goals as goal

pub returns : goal.returns
returns g c = search rules
