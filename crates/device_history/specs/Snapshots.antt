-- What frames had: the values that a request's begin applied, and the snapshot of a complete one (Linux userspace API, "Request API"; that
-- the clusters which aren't refused are applied is of this project). With it each request as its store sees it, and the queue.
use Rattle.std.specs.Prelude.{ℕ, Bool, false, nat_eq, cond, List, [], ◌∷◌, map, length, filter_map, Option, None, Some}
use Rattle.std.specs.List.{range_with_len}
use Rattle.std.specs.Option.{option_map}
use Rattle.ctrl_types.specs.declared.value.CtrlValue.{CtrlValue}
use Rattle.ctrl_types.specs.Pairs.{last_value}
use Rattle.ctrl_types.specs.declared.ids.Pair.{Pair}
use Rattle.req_book.specs.declared.state.RequestState.{RequestState}
use Rattle.req_book.specs.Requests.{RequestData, is_idle, is_complete, is_pending, is_number, snapshot_of}
use Rattle.frame_queue.specs.Frames.{FramesData}
use Rattle.ctrl_calls.specs.Meanings.{Verdicts}
use Rattle.ctrl_handlers.specs.Plan.{PlanData}
use Rattle.ctrl_clusters.specs.Rows.{Values}
use Rattle.device_history.specs.declared.ask.Step.{Step}
use Rattle.device_history.specs.declared.ask.Step.TheVariants as steps
use Rattle.device_history.specs.Steps.{Past}
use Rattle.device_history.specs.Requests.{state, is_there, makes_new, asked, buffer, ever_made}
use Rattle.device_history.specs.Frames.{begun_by, queue, running}
use Rattle.device_history.specs.Values.{now}
use Rattle.device_history.specs.Controls.{controls_now}
use Rattle.device_history.specs.Laid.{applied_over, laid, refused_over}

-- the values that the begin of a request's frame makes of those before it
abbrev pub begun_values : Verdicts → PlanData → Past → ℕ → Values
begun_values verdicts plan older r = laid verdicts plan (controls_now verdicts plan older) (asked plan older r)

-- the clusters that it refuses
abbrev pub begun_refused : Verdicts → PlanData → Past → ℕ → List ℕ
begun_refused verdicts plan older r = refused_over verdicts plan (controls_now verdicts plan older) (asked plan older r)

-- what it applies: the controls that the request asks for and whose cluster isn't refused, with their values afterwards
abbrev pub begun_pairs : Verdicts → PlanData → Past → ℕ → List Pair
begun_pairs verdicts plan older r = applied_over verdicts plan (controls_now verdicts plan older) (asked plan older r)

-- the history before the begin of a request's frame, where there was one since the request was made, or made as new
unfoldable pub before_begin : ℕ → Past → Option Past
before_begin r [] = None
before_begin r (e ∷ older) = cond (makes_new r (length older) e.step) None (cond (is_number (begun_by e.step) r) (Some older) (before_begin r older))

-- what the begin of a request's frame applied; nothing, where there was none
abbrev pub applied_by_begin : Verdicts → PlanData → ℕ → Option Past → List Pair
applied_by_begin verdicts plan r None = []
applied_by_begin verdicts plan r (Some older) = begun_pairs verdicts plan older r

-- for each control its value after the begin of a request's frame, where the begin applied the request to it
abbrev pub applied : Verdicts → PlanData → Past → ℕ → List (Option CtrlValue)
applied verdicts plan past r = map (last_value (applied_by_begin verdicts plan r (before_begin r past))) (range_with_len 0 (length plan.controls))

-- a step completes a request: it ends its frame, takes it from the queue, or stops the stream while it waits or runs
abbrev pub completes : Past → ℕ → Step → Bool
completes older r (steps.Complete id) = nat_eq id.0 r
completes older r (steps.Cancel id) = nat_eq id.0 r
completes older r steps.StreamOff = is_there is_pending (state older r)
completes older r _ = false

-- the history before the step that completed a request last
unfoldable pub before_completion : ℕ → Past → Past
before_completion r [] = []
before_completion r (e ∷ older) = cond (completes older r e.step) older (before_completion r older)

-- The snapshot of a complete request: of a control that it asks for and whose cluster wasn't refused, the value after the begin of its frame; of
-- any other the value in force at the completion, which changes none.
abbrev pub snapshot : Verdicts → PlanData → Past → ℕ → List CtrlValue
snapshot verdicts plan past r = snapshot_of (applied verdicts plan past r) (now verdicts plan (before_completion r past))

-- a request in a state; before its queueing nothing can have been applied, and only a complete one has a snapshot
abbrev pub request_in : Verdicts → PlanData → Past → ℕ → RequestState → RequestData
request_in verdicts plan past r s = record {
  id = r;
  state = s;
  buffer = buffer past r;
  pairs = asked plan past r;
  applied = cond (is_idle s) [] (applied verdicts plan past r);
  snapshot = cond (is_complete s) (snapshot verdicts plan past r) [];
}

-- The request with an id, where there is one.
unfoldable pub request : Verdicts → PlanData → Past → ℕ → Option RequestData
request verdicts plan past r = option_map (request_in verdicts plan past r) (state past r)

-- The requests that there are, in the order of their making.
abbrev pub requests : Verdicts → PlanData → Past → List RequestData
requests verdicts plan past = filter_map (request verdicts plan past) (ever_made past)

-- the requests, the queue, and the one whose frame is being made
abbrev pub frames : Verdicts → PlanData → Past → FramesData
frames verdicts plan past = record {
  requests = record { controls = length plan.controls; all = requests verdicts plan past };
  queue = queue past;
  running = running past;
}
