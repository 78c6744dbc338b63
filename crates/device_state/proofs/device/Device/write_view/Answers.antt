-- written out so that a wrong body is refused soon (docs/GATE.md)
use Rattle.std.proofs.Common.{rules}
use Rattle.device_state.proofs.device.Device.write_view.Goals as goal

pub returns-clause-view : goal.returns-clause-view
returns-clause-view g c = search rules
