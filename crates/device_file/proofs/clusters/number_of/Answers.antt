-- written out so that a wrong body is refused soon (docs/GATE.md)
use Rattle.std.proofs.Common.{rules}
use Rattle.device_file.proofs.clusters.number_of.Goals as goal

pub returns-in-Some-cluster_of : goal.returns-in-Some-cluster_of
returns-in-Some-cluster_of c = search rules
