-- What the steps that leave file handles, grabs, ranges and values make of the frames that are queued, and how many validators a kept forecast of them asks
-- at most then (of this project).
use Rattle.std.specs.Prelude.{ℕ, nat_eq, not, cond, List, [], ◌∷◌, ◌++◌, filter, Option, None, Some}
use Rattle.ctrl_types.specs.declared.ids.Pair.{Pair}
use Rattle.ctrl_handlers.specs.Plan.{PlanData}
use Rattle.ctrl_forecast.specs.Boards.{named_clusters}
use Rattle.ctrl_forecast.specs.Forecasts.{QueuedData, named_by_frames}
use Rattle.ctrl_forecast.specs.Touched.{touched_count}
use Rattle.req_book.specs.Requests.{RequestData, find}
use Rattle.frame_queue.specs.Frames.{FramesData, buffer_number}
use Rattle.device_history.specs.declared.ask.Step.{Step}
use Rattle.device_history.specs.declared.ask.Step.TheVariants as steps

-- what a request asks for, where there is one
abbrev pub pairs_in : Option RequestData → List Pair
pairs_in None = []
pairs_in (Some q) = q.pairs

-- the frame of a request, as the requests have it
abbrev pub frame_in : FramesData → ℕ → QueuedData
frame_in f r = record { request = record { 0 = r }; buffer = buffer_number (find f.requests.all r); asked = pairs_in (find f.requests.all r) }

-- What such a step makes of the queued frames: a queueing puts its own last, a cancellation takes its own, and the end of the stream takes all.
abbrev pub queued_after : FramesData → Step → List QueuedData → List QueuedData
queued_after f (steps.Queue r) queued = queued ++ frame_in f r.0 ∷ []
queued_after f (steps.Cancel r) queued = filter (λ q. not (nat_eq r.0 q.request.0)) queued
queued_after f steps.StreamOff queued = []
queued_after f _ queued = queued

-- how often the frames behind that of a request name the clusters that it names
abbrev pub named_behind : PlanData → ℕ → List QueuedData → ℕ
named_behind plan r [] = 0
named_behind plan r (q ∷ queued) = cond (nat_eq r q.request.0) (named_by_frames plan queued (named_clusters plan q.asked)) (named_behind plan r queued)

-- How many validators such a step asks at most: a queueing one for each cluster that its frame names; a cancellation one for each cluster that its frame
-- names and each frame behind it that names the cluster too; every other none.
abbrev pub asks_at_most : PlanData → FramesData → Step → List QueuedData → ℕ
asks_at_most plan f (steps.Queue r) queued = touched_count plan (frame_in f r.0).asked
asks_at_most plan f (steps.Cancel r) queued = named_behind plan r.0 queued
asks_at_most plan f _ queued = 0
