-- written out so that a wrong body is refused soon (docs/GATE.md)
use Rattle.std.proofs.Common.{rules}
use Rattle.device_renewal.proofs.quiet.is_there.Goals as goal

-- src/quiet.rt
pub returns-in-Alloc : goal.returns-in-Alloc
returns-in-Alloc g c = search rules
