-- written out so that a wrong body is refused soon (docs/GATE.md)
use Rattle.std.proofs.Common.{arith}
use Rattle.device_parts.proofs.with_forecasts.put_frame.Goals as goal

pub returns-clause-grows : goal.returns-clause-grows
returns-clause-grows g c = omega (arith, c.push.ensures.grows)
