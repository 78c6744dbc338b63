-- written out so that a wrong body is refused soon (docs/GATE.md)
use Rattle.std.proofs.Common.{rules}
use Rattle.device_renewal.proofs.alike.is_alike_at.Goals as goal

-- src/alike.rt
pub returns : goal.returns
returns g c = search rules
