-- written out so that a wrong body is refused soon (docs/GATE.md)
use Rattle.std.proofs.Common.{rules}
use Rattle.ctl_script.proofs.auditing.compared.Goals as goal

pub returns-then-agrees-clause-equal : goal.returns-then-agrees-clause-equal
returns-then-agrees-clause-equal g c = search rules
