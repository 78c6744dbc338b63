-- written out so that a wrong body is refused soon (docs/GATE.md)
use Rattle.std.proofs.Common.{rules}
use Rattle.frame_queue.proofs.frames.Frames.is_like.Goals as goal

pub returns : goal.returns
returns c = search rules
