-- written out so that a wrong body is refused soon (docs/GATE.md)
use Rattle.std.proofs.Common.{rules}
use Rattle.ctrl_raises.proofs.raising.needing_feedback.Goals as goal

pub returns-else-not-is_among : goal.returns-else-not-is_among
returns-else-not-is_among c = search rules

pub returns-then-not-is_among : goal.returns-then-not-is_among
returns-then-not-is_among c = search rules
