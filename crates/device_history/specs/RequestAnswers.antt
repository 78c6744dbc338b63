-- What requests and frames are answered (Linux userspace API, "Request API"; buffers, begins, cancellations and freeing are of this project): the
-- checks stand in their order in req_book/specs/Refusals and frame_queue/specs/Frames; what adds a step is refused, behind its own checks, where no further step is kept (`stepped`).
use Rattle.std.specs.Prelude.{ℕ, length, None, Result}
use Rattle.std.specs.Option.{ok_or}
use Rattle.ctrl_types.specs.declared.check.Check.{Check}
use Rattle.ctrl_types.specs.declared.check.Check.TheVariants.{RequestMissing}
use Rattle.ctrl_types.specs.declared.ids.RequestId.{RequestId}
use Rattle.req_book.specs.declared.state.RequestState.{RequestState}
use Rattle.req_book.specs.Refusals.{alloc_check, buffer_check, queue_check, clear_check}
use Rattle.frame_queue.specs.Frames.{next_frame, complete_check, cancel_check}
use Rattle.ctrl_calls.specs.Meanings.{Verdicts}
use Rattle.ctrl_handlers.specs.Plan.{PlanData}
use Rattle.device_history.specs.declared.ask.Reply.{Reply}
use Rattle.device_history.specs.declared.ask.Reply.TheVariants as replies
use Rattle.device_history.specs.Steps.{Past}
use Rattle.device_history.specs.Refusals.{Answer, stepped, stepped_with, replied_with}
use Rattle.device_history.specs.Requests.{state}
use Rattle.device_history.specs.Snapshots.{request, requests, frames, begun_refused}

-- Making a request: its id is the number of this step.
abbrev pub alloc_answer : Verdicts → PlanData → Past → Answer
alloc_answer verdicts plan past = stepped (alloc_check (requests verdicts plan past)) past (replies.Request (record { 0 = length past }))

-- Giving a request a buffer.
abbrev pub add_buffer_answer : Verdicts → PlanData → Past → RequestId → ℕ → Answer
add_buffer_answer verdicts plan past r number = stepped (buffer_check (requests verdicts plan past) number (request verdicts plan past r.0)) past replies.Done

-- Queueing a request.
abbrev pub queue_answer : Verdicts → PlanData → Past → RequestId → Answer
queue_answer verdicts plan past r = stepped (queue_check (request verdicts plan past r.0)) past replies.Done

-- a frame that is begun, of the first request that waits, with its buffer and the clusters that are refused
abbrev pub frame_reply : Verdicts → PlanData → Past → ℕ × ℕ → Reply
frame_reply verdicts plan past first = replies.Frame (record { 0 = first.0 }) first.1 (begun_refused verdicts plan past first.0)

-- Beginning a frame: the next one.
abbrev pub begin_frame_answer : Verdicts → PlanData → Past → Answer
begin_frame_answer verdicts plan past = stepped_with (frame_reply verdicts plan past) (next_frame (frames verdicts plan past)) past

-- Ending the frame that is being made.
abbrev pub complete_answer : Verdicts → PlanData → Past → Answer
complete_answer verdicts plan past = stepped (complete_check (frames verdicts plan past)) past replies.Done

-- Taking a request from the queue.
abbrev pub cancel_answer : Verdicts → PlanData → Past → RequestId → Answer
cancel_answer verdicts plan past r = stepped (cancel_check (request verdicts plan past r.0)) past replies.Done

-- Stopping the stream: nothing but the limit of steps refuses it.
abbrev pub off_answer : Past → Answer
off_answer past = stepped None past replies.Done

-- Making a request as new, or letting it go.
abbrev pub clear_answer : Verdicts → PlanData → Past → RequestId → Answer
clear_answer verdicts plan past r = stepped (clear_check (request verdicts plan past r.0)) past replies.Done

-- a request's state, where there is such a request
abbrev pub state_found : Past → RequestId → Result RequestState Check
state_found past r = ok_or (state past r.0) RequestMissing

-- Reading a request's state.
abbrev pub state_answer : Past → RequestId → Answer
state_answer past r = replied_with (λ s. replies.State s) (state_found past r)
