-- When queues of frames are alike: what a begin applied doesn't count (of this project).
use Rattle.std.specs.Prelude.{◌≡◌}
use Rattle.req_book.specs.Alike.{AreLike}
use Rattle.frame_queue.specs.Frames.{FramesData}

-- the same requests, whatever their begins applied; the same ones wait, in the same order; and the same one runs
pub record IsLike (one other : FramesData) : Type 0 where
  pub requests : AreLike one.requests other.requests
  pub queue : one.queue ≡ other.queue
  pub running : one.running ≡ other.running
