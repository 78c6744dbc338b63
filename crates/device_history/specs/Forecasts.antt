-- What the queued frames will have, as they stand (of this project).
use Rattle.std.specs.Prelude.{ℕ, nat_eq, not, List, [], ◌∷◌, ◌++◌, map, filter, drop, unwrap_or, slice_get, Result}
use Rattle.std.specs.Option.{ok_or}
use Rattle.ctrl_types.specs.declared.check.Check.{Check}
use Rattle.ctrl_types.specs.declared.check.Check.TheVariants.{NothingQueuedThere}
use Rattle.ctrl_calls.specs.Meanings.{Verdicts}
use Rattle.ctrl_clusters.specs.ControlsData.{ControlsData}
use Rattle.ctrl_handlers.specs.Plan.{PlanData}
use Rattle.ctrl_forecast.specs.Boards.{BoardData, board_of}
use Rattle.ctrl_forecast.specs.Forecasts.{QueuedData, forecasts}
use Rattle.ctrl_forecast.specs.declared.board.Forecast.{Forecast}
use Rattle.device_history.specs.declared.ask.Reply.TheVariants as replies
use Rattle.device_history.specs.declared.ask.Step.{Step}
use Rattle.device_history.specs.declared.ask.Step.TheVariants as steps
use Rattle.device_history.specs.Steps.{Past}
use Rattle.device_history.specs.Refusals.{Answer, replied_with}
use Rattle.device_history.specs.Controls.{controls_now}
use Rattle.device_history.specs.Requests.{asked, buffer}
use Rattle.device_history.specs.Frames.{queue}

-- the frame of a request that is queued; in a legal history each one has a buffer, and 0 stands in else
abbrev pub queued_frame : PlanData → Past → ℕ → QueuedData
queued_frame plan past r = record { request = record { 0 = r }; buffer = unwrap_or (buffer past r) 0; asked = asked plan past r }

-- the queued frames, in the order of the queue
abbrev pub queued_frames : PlanData → Past → List QueuedData
queued_frames plan past = map (queued_frame plan past) (queue past)

-- What a step that follows a history makes of the queued frames, as the law `waiting_frames` says: a queueing puts its own last, a begin takes the
-- first, a cancellation takes its own, and the end of the stream takes all.
abbrev pub waiting_after : PlanData → Past → Step → List QueuedData → List QueuedData
waiting_after plan older (steps.Queue r) frames = frames ++ queued_frame plan older r.0 ∷ []
waiting_after plan older (steps.Begin r) frames = drop 1 frames
waiting_after plan older (steps.Cancel r) frames = filter (λ q. not (nat_eq r.0 q.request.0)) frames
waiting_after plan older steps.StreamOff frames = []
waiting_after plan older _ frames = frames

-- What queued frames will have: what the first asks for is laid over these values, what each other asks for over what the one before leaves, all under these ranges and
-- grabs.
abbrev pub forecasts_over : Verdicts → PlanData → ControlsData → List QueuedData → List Forecast
forecasts_over verdicts plan at queued = forecasts verdicts plan at.ranges at.values at.grabs queued

-- the queued frames with what they will have, as a board keeps them
abbrev pub board_over : Verdicts → PlanData → ControlsData → List QueuedData → BoardData
board_over verdicts plan at queued = board_of verdicts plan at.ranges at.values at.grabs queued

-- what the queued frames will have, over the present controls
abbrev pub forecast : Verdicts → PlanData → Past → List Forecast
forecast verdicts plan past = forecasts_over verdicts plan (controls_now verdicts plan past) (queued_frames plan past)

-- these frames with that, over the present controls
abbrev pub board : Verdicts → PlanData → Past → BoardData
board verdicts plan past = board_over verdicts plan (controls_now verdicts plan past) (queued_frames plan past)

-- the forecast at a place of the queue, where a frame is queued there
abbrev pub forecast_at : Verdicts → PlanData → Past → ℕ → Result Forecast Check
forecast_at verdicts plan past place = ok_or (slice_get (forecast verdicts plan past) place) NothingQueuedThere

-- Reading it: neither a running frame nor the limit of steps refuses it.
abbrev pub forecast_answer : Verdicts → PlanData → Past → ℕ → Answer
forecast_answer verdicts plan past place = replied_with (λ row. replies.Forecast row) (forecast_at verdicts plan past place)
