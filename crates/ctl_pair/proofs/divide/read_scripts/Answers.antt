-- written out so that a wrong body is refused soon (docs/GATE.md)
use Rattle.std.proofs.Common.{rules}
use Rattle.ctl_pair.proofs.divide.read_scripts.Goals as goal

pub returns-in-Ok-new-2-clause-scripts : goal.returns-in-Ok-new-2-clause-scripts
returns-in-Ok-new-2-clause-scripts g c = search rules
