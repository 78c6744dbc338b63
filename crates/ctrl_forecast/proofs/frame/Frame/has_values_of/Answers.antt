-- written out so that a wrong body is refused soon (docs/GATE.md)
use Rattle.std.proofs.Common.{rules}
use Rattle.ctrl_forecast.proofs.frame.Frame.has_values_of.Goals as goal

pub returns-then-are_same_at : goal.returns-then-are_same_at
returns-then-are_same_at g c = search rules
