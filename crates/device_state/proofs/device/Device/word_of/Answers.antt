-- written out so that a wrong body is refused soon (docs/GATE.md)
use Rattle.std.proofs.Common.{rules}
use Rattle.device_state.proofs.device.Device.word_of.Goals as goal

pub returns-in-None : goal.returns-in-None
returns-in-None g c = search rules

pub returns-in-Some : goal.returns-in-Some
returns-in-Some g c = search rules
