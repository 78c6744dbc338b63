-- written out so that a wrong body is refused soon (docs/GATE.md)
use Rattle.std.proofs.Common.{rules}
use Rattle.ctl_session.proofs.one.tell_one.Goals as goal

-- src/one.rt
pub returns-in-Some : goal.returns-in-Some
returns-in-Some c = search rules
