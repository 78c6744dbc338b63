-- written out so that a wrong body is refused soon (docs/GATE.md)
use Rattle.std.proofs.Common.{rules}
use Rattle.device_file.proofs.items.index_problem_of.Goals as goal

pub returns-else-minimum-index : goal.returns-else-minimum-index
returns-else-minimum-index c = search rules
