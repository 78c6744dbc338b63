-- written out so that a wrong body is refused soon (docs/GATE.md)
use Rattle.std.proofs.Common.{rules}
use Rattle.ctrl_clusters.proofs.judging.judged.Goals as goal

pub returns-in-Refuse-clause-err : goal.returns-in-Refuse-clause-err
returns-in-Refuse-clause-err c = search rules
