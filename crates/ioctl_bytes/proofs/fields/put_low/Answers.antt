-- written out so that a wrong body is refused soon (docs/GATE.md)
use Rattle.std.proofs.Common.{rules}
use Rattle.ioctl_bytes.proofs.fields.put_low.Goals as goal

-- src/fields.rt
pub returns : goal.returns
returns c = record { part = search rules; length = search rules }
