-- Which check refuses a step, and whose turn a frame's step is (Linux userspace API, "Request API"; order, buffers, begins and cancelling of this project).
use Rattle.std.specs.Prelude.{◌≡◌, ℕ, List, Option, None, Some}
use Rattle.std.specs.Result.{result_err}
use Rattle.ctrl_types.specs.declared.check.Check.{Check}
use Rattle.req_book.specs.Requests.{RequestData}
use Rattle.req_book.specs.Refusals.{alloc_check, store_check, buffer_check, queue_check, clear_check}
use Rattle.frame_queue.specs.Frames.{begin_check, complete_check, cancel_check}
use Rattle.ctrl_calls.specs.Meanings.{Verdicts}
use Rattle.ctrl_handlers.specs.Plan.{PlanData, control}
use Rattle.device_history.specs.declared.ask.Step.{Step}
use Rattle.device_history.specs.declared.ask.Step.TheVariants as steps
use Rattle.device_history.specs.Steps.{Past}
use Rattle.device_history.specs.Handles.{open_check, through}
use Rattle.device_history.specs.Grabs.{grab_check}
use Rattle.device_history.specs.Ranges.{range_check}
use Rattle.device_history.specs.Frames.{first_of}
use Rattle.device_history.specs.Snapshots.{request, requests, frames}
use Rattle.device_history.specs.EventAnswers.{subscribe_check, first_event}

-- Why the requests refuse a step; `all` are all that there are, and `find` looks one up by its id. A further one isn't made where there are as many as can be; any other
-- step is refused by the state and the buffer of the request that it names, and a buffer also where another request holds its number. A begin and the end of a frame aren't
-- refused here: see `HasItsTurn`.
abbrev pub request_refusal : List RequestData → (ℕ → Option RequestData) → Step → Option Check
request_refusal all find steps.Alloc = alloc_check all
request_refusal all find (steps.Store r pairs) = store_check (find r.0)
request_refusal all find (steps.Buffer r number) = buffer_check all number (find r.0)
request_refusal all find (steps.Queue r) = queue_check (find r.0)
request_refusal all find (steps.Cancel r) = cancel_check (find r.0)
request_refusal all find (steps.Reinit r) = clear_check (find r.0)
request_refusal all find (steps.Free r) = clear_check (find r.0)
request_refusal all find _ = None

-- A frame's step has its turn: a begin is of the request that was queued first, while none runs; the end of a frame is of the request that runs. No other step needs a
-- turn.
abbrev pub HasItsTurn : List ℕ → Option ℕ → Step → Type 0
HasItsTurn queue running (steps.Begin r) = (running ≡ None) × (first_of queue ≡ Some r.0)
HasItsTurn queue running (steps.Complete r) = running ≡ Some r.0
HasItsTurn queue running _ = Unit {0}

-- The check, after a history, by which an ask for this step would be refused, but for the limit of steps. Of a set it tells nothing, and of what is stored in a request
-- only whether that request takes it: the other checks of a list stand in specs/Lists. It doesn't say whether a begin, the end of a frame, a take or a subscription names
-- the request or the control that it would be.
abbrev pub step_refusal : Verdicts → PlanData → Past → Step → Option Check
step_refusal verdicts plan past (steps.OpenFh handler) = open_check plan past handler
step_refusal verdicts plan past (steps.CloseFh fh) = through past fh None
step_refusal verdicts plan past (steps.Grab c on) = grab_check plan c
step_refusal verdicts plan past (steps.ModifyRange c low high apart default_value) = range_check plan past c low high apart default_value
step_refusal verdicts plan past (steps.Begin r) = begin_check (frames verdicts plan past)
step_refusal verdicts plan past (steps.Complete r) = complete_check (frames verdicts plan past)
step_refusal verdicts plan past (steps.Subscribe fh c flags) = subscribe_check plan past fh (control plan c).id
step_refusal verdicts plan past (steps.Unsubscribe fh c) = through past fh None
step_refusal verdicts plan past (steps.Take fh c) = result_err (first_event verdicts plan past fh)
step_refusal verdicts plan past step = request_refusal (requests verdicts plan past) (request verdicts plan past) step
