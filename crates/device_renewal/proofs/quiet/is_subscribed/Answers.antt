-- written out so that a wrong body is refused soon (docs/GATE.md)
use Rattle.std.proofs.Common.{rules}
use Rattle.device_renewal.proofs.quiet.is_subscribed.Goals as goal

-- src/quiet.rt
pub returns : goal.returns
returns g c = search rules
