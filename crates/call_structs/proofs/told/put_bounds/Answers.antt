-- written out so that a wrong body is refused soon (docs/GATE.md)
use Rattle.std.proofs.Common.{rules}
use Rattle.call_structs.proofs.told.put_bounds.Goals as goal

-- src/told.rt
pub returns : goal.returns
returns c = record { told = search rules; length = search rules }
