-- written out so that a wrong body is refused soon (docs/GATE.md)
use Rattle.std.proofs.Common.{rules}
use Rattle.ctrl_forecast.proofs.frame.Frame.new.Goals as goal

pub returns-clause-frame : goal.returns-clause-frame
returns-clause-frame g c = search rules
