-- written out so that a wrong body is refused soon (docs/GATE.md)
use Rattle.std.proofs.Common.{rules}
use Rattle.device_state.proofs.device.Device.has_index.Goals as goal

pub returns-then-minimum-index : goal.returns-then-minimum-index
returns-then-minimum-index g c = search rules
