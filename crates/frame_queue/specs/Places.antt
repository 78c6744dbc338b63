-- How the queue of frames is kept: with a place for each request that there can be (of this project).
use Rattle.std.specs.Prelude.{ℕ, ◌≤◌, length}
use Rattle.req_book.specs.declared.limits.TheConstants.{MAX_REQUESTS}
use Rattle.req_book.specs.Requests.{HaveOwnIds}
use Rattle.frame_queue.specs.Frames.{FramesData, QueueFitsRequests}

-- The queue has exactly the queued requests; no two requests have an id in common; there are no more than there can be; and so many fit into the queue.
pub record HasQueueRoom (f : FramesData) (room : ℕ) : Type 0 where
  pub frames : QueueFitsRequests f
  pub own : HaveOwnIds f.requests.all
  pub few : length f.requests.all ≤ MAX_REQUESTS
  pub fits : MAX_REQUESTS ≤ room
