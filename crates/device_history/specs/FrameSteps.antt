-- What each step makes of the requests and of the queue of frames, in the words of the crates that keep them, as the law `kept_frames` says
-- of the steps that may follow a history.
use Rattle.std.specs.Prelude.{◌≡◌, ℕ, nat_eq, cond, List, [], ◌∷◌, ◌++◌, length, Option, None, Some}
use Rattle.std.specs.Option.{option_map}
use Rattle.ctrl_types.specs.declared.ids.Pair.{Pair}
use Rattle.ctrl_clusters.specs.Rows.{Values}
use Rattle.req_book.specs.Requests.{RequestData, new_request, with_changed, with_pairs, with_buffer, cleared, queued, begun, completed, without}
use Rattle.frame_queue.specs.Frames.{FramesData, with_requests, queued_last, after_begin, after_complete, cancelled, ended_request, after_off}
use Rattle.ctrl_calls.specs.Meanings.{Verdicts}
use Rattle.ctrl_handlers.specs.Plan.{PlanData}
use Rattle.device_history.specs.declared.ask.Step.{Step}
use Rattle.device_history.specs.declared.ask.Step.TheVariants as steps
use Rattle.device_history.specs.Steps.{Past}
use Rattle.device_history.specs.Frames.{queue, running}
use Rattle.device_history.specs.Values.{now}
use Rattle.device_history.specs.Snapshots.{request, requests, begun_pairs}
use Rattle.device_history.specs.StepChecks.{request_refusal, HasItsTurn}

-- what a step makes of the requests and the queue, at these present values; `applied` is what a begin applies, and `n` the number of the step
abbrev pub frames_changed : Values → List Pair → ℕ → Step → FramesData → FramesData
frames_changed values applied n steps.Alloc f = with_requests f (record f.requests { all = f.requests.all ++ new_request n ∷ [] })
frames_changed values applied n (steps.Store r pairs) f = with_requests f (with_changed f.requests r.0 (with_pairs f.requests.controls pairs))
frames_changed values applied n (steps.Buffer r number) f = with_requests f (with_changed f.requests r.0 (with_buffer number))
frames_changed values applied n (steps.Queue r) f = queued_last f r.0
frames_changed values applied n (steps.Begin r) f = after_begin f applied
frames_changed values applied n (steps.Complete r) f = after_complete f values
frames_changed values applied n (steps.Cancel r) f = cancelled f r.0 values
frames_changed values applied n steps.StreamOff f = after_off f values
frames_changed values applied n (steps.Reinit r) f = with_requests f (with_changed f.requests r.0 cleared)
frames_changed values applied n (steps.Free r) f = with_requests f (record f.requests { all = without r.0 f.requests.all })
frames_changed values applied n _ f = f

-- what a begin applies
abbrev pub applied_by_step : Verdicts → PlanData → Past → Step → List Pair
applied_by_step verdicts plan older (steps.Begin r) = begun_pairs verdicts plan older r.0
applied_by_step verdicts plan older _ = []

-- what a step that follows a history makes of the requests and the queue
abbrev pub frames_after : Verdicts → PlanData → Past → ℕ → Step → FramesData → FramesData
frames_after verdicts plan older n step f = frames_changed (now verdicts plan older) (applied_by_step verdicts plan older step) n step f

-- What a step that may follow a history finds: the requests don't refuse it, and where it begins or ends a frame, it has its turn.
abbrev pub FitsFrames : Verdicts → PlanData → Past → Step → Type 0
FitsFrames verdicts plan older step = (request_refusal (requests verdicts plan older) (request verdicts plan older) step ≡ None) × HasItsTurn (queue older) (running older) step

-- a change of the request with an id
abbrev pub changed_if_named : ℕ → ℕ → (RequestData → RequestData) → Option RequestData → Option RequestData
changed_if_named id j f before = cond (nat_eq id j) (option_map f before) before

-- What a step that follows a history makes of one request, as the law `each_request` says.
abbrev pub request_after : Verdicts → PlanData → Past → ℕ → Step → ℕ → Option RequestData → Option RequestData
request_after verdicts plan older n steps.Alloc j before = cond (nat_eq n j) (Some (new_request n)) before
request_after verdicts plan older n (steps.Store r pairs) j before = changed_if_named r.0 j (with_pairs (length plan.controls) pairs) before
request_after verdicts plan older n (steps.Buffer r number) j before = changed_if_named r.0 j (with_buffer number) before
request_after verdicts plan older n (steps.Queue r) j before = changed_if_named r.0 j (queued (length plan.controls)) before
request_after verdicts plan older n (steps.Begin r) j before = changed_if_named r.0 j (begun (length plan.controls) (begun_pairs verdicts plan older r.0)) before
request_after verdicts plan older n (steps.Complete r) j before = changed_if_named r.0 j (completed (now verdicts plan older)) before
request_after verdicts plan older n (steps.Cancel r) j before = changed_if_named r.0 j (completed (now verdicts plan older)) before
request_after verdicts plan older n steps.StreamOff j before = option_map (ended_request (now verdicts plan older)) before
request_after verdicts plan older n (steps.Reinit r) j before = changed_if_named r.0 j cleared before
request_after verdicts plan older n (steps.Free r) j before = cond (nat_eq r.0 j) None before
request_after verdicts plan older n _ j before = before
