-- written out so that a wrong body is refused soon (docs/GATE.md)
use Rattle.std.proofs.Common.{rules}
use Rattle.frame_queue.proofs.frames.Frames.cancel_refusal.Goals as goal

pub returns-in-Some-Running : goal.returns-in-Some-Running
returns-in-Some-Running c = search rules
