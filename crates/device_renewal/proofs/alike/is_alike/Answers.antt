-- written out so that a wrong body is refused soon (docs/GATE.md)
use Rattle.std.proofs.Common.{rules}
use Rattle.device_renewal.proofs.alike.is_alike.Goals as goal

-- src/alike.rt
pub loop-control-init : goal.loop-control-init
loop-control-init g c = search rules
