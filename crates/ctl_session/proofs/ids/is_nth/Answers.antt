-- written out so that a wrong body is refused soon (docs/GATE.md)
use Rattle.std.proofs.Common.{rules}
use Rattle.ctl_session.proofs.ids.is_nth.Goals as goal

-- src/ids.rt
pub returns-then-is_private_at : goal.returns-then-is_private_at
returns-then-is_private_at c = search rules
