-- written out so that a wrong body is refused soon (docs/GATE.md)
use Rattle.std.proofs.Common.{rules}
use Rattle.ctl_session.proofs.events.flags_for.Goals as goal

-- src/events.rt
pub returns-in-Some : goal.returns-in-Some
returns-in-Some c = search rules
