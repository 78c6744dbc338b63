-- written out so that a wrong body is refused soon (docs/GATE.md)
use Rattle.std.proofs.Common.{rules}
use Rattle.ctrl_forecast.proofs.frame.Frame.has_settled.Goals as goal

pub returns-then-has_row : goal.returns-then-has_row
returns-then-has_row g c = search rules
