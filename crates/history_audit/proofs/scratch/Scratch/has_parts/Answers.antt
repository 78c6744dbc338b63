-- written out so that a wrong body is refused soon (docs/GATE.md)
use Rattle.std.proofs.Common.{rules}
use Rattle.history_audit.proofs.scratch.Scratch.has_parts.Goals as goal

pub returns : goal.returns
returns g c = search rules
