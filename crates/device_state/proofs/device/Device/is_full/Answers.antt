-- written out so that a wrong body is refused soon (docs/GATE.md)
use Rattle.std.proofs.Common.{arith}
use Rattle.std.proofs.lemmas.Grind.{common_steps}
use Rattle.device_state.proofs.device.Device.is_full.Goals as goal

pub returns : goal.returns
returns g c = grind (arith, common_steps)
