-- written out so that a wrong body is refused soon (docs/GATE.md)
use Rattle.std.proofs.Common.{rules}
use Rattle.ctrl_events.proofs.queue.Queue.subscribe.Goals as goal

pub returns-then-intersects-clause-ok : goal.returns-then-intersects-clause-ok
returns-then-intersects-clause-ok c = search rules
