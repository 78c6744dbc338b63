-- written out so that a wrong body is refused soon (docs/GATE.md)
use Rattle.std.proofs.Common.{rules}
use Rattle.ctrl_clusters.proofs.present_flags.flags_where.Goals as goal

pub returns-else-inactive : goal.returns-else-inactive
returns-else-inactive g c = search rules

pub returns-then-inactive : goal.returns-then-inactive
returns-then-inactive g c = search rules
