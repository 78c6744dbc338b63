-- What a history makes of a device, worked out of its steps alone (of this project).
use Rattle.std.specs.Prelude.{◌≡◌, ℕ, nat_eq, List, map, length, Option}
use Rattle.std.specs.List.{find, range_with_len}
use Rattle.ctrl_types.specs.declared.flags.Flags.{Flags}
use Rattle.ctrl_types.specs.declared.ids.FhId.{FhId}
use Rattle.ctrl_calls.specs.Meanings.{Verdicts}
use Rattle.ctrl_settle.specs.Control.{Control}
use Rattle.ctrl_handlers.specs.Plan.{PlanData}
use Rattle.ctrl_events.specs.declared.event.Waiting.{Waiting}
use Rattle.ctrl_events.specs.Events.{EventsData, FileEvents, events_of}
use Rattle.ctrl_clusters.specs.ControlsData.{ControlsData}
use Rattle.ctrl_clusters.specs.PresentFlags.{flags_under}
use Rattle.ctrl_clusters.specs.Rows.{Grabs, Values}
use Rattle.ctrl_forecast.specs.declared.board.Forecast.{Forecast}
use Rattle.frame_queue.specs.Frames.{FramesData}
use Rattle.frame_queue.specs.Like.{IsLike}
use Rattle.device_history.specs.Steps.{Past}
use Rattle.device_history.specs.Ranges.{ranges_now}
use Rattle.device_history.specs.Handles.{opened}
use Rattle.device_history.specs.Events.{next_sequence, pending}
use Rattle.device_history.specs.Values.{now}
use Rattle.device_history.specs.Flags.{flags_now}
use Rattle.device_history.specs.Snapshots.{frames}
use Rattle.device_history.specs.Forecasts.{forecast}
use Rattle.device_parts.specs.State.{StateData}
use Rattle.history_audit.specs.Replay.{ProgressData}

-- an open file handle, with the events that wait for it, in order, and the number of its next event
pub record OpenEvents : Type 0 where
  pub fh : FhId
  pub waiting : List Waiting
  pub next : ℕ

-- the present ranges, values and flags, by control; the requests and their queue; what the queued frames will have; and the events of the open file
-- handles, in the order of their opening
pub record ScratchData : Type 0 where
  pub ranges : List Control
  pub values : Values
  pub flags : List Flags
  pub frames : FramesData
  pub forecasts : List Forecast
  pub events : List OpenEvents

-- what a history makes of a device, and what was replayed for it
pub record AuditedData : Type 0 where
  pub shown : ScratchData
  pub made : ProgressData

-- the flags of each control under values and grabs
abbrev pub flags_of_all : PlanData → Values → Grabs → List Flags
flags_of_all plan values grabs = map (flags_under plan values grabs) (range_with_len 0 (length plan.controls))

-- the present flags of each control
abbrev pub all_flags : Verdicts → PlanData → Past → List Flags
all_flags verdicts plan past = map (flags_now verdicts plan past) (range_with_len 0 (length plan.controls))

-- a file handle, with what is kept of its events
abbrev pub open_with : ℕ → FileEvents → OpenEvents
open_with fh kept = record { fh = record { 0 = fh }; waiting = kept.waiting; next = kept.next }

-- the events of some file handles, each with its handler, out of all events that are kept
abbrev pub open_events : EventsData → List (ℕ × ℕ) → List OpenEvents
open_events events handles = map (λ h. open_with h.0 (events_of events h.0)) handles

-- what a state shows, with the flags and the forecasts that it makes
abbrev pub shown_of : StateData → List Flags → List Forecast → ScratchData
shown_of state flags forecasts = record {
  ranges = state.controls.ranges;
  values = state.controls.values;
  flags = flags;
  frames = state.frames;
  forecasts = forecasts;
  events = open_events state.events state.file_handles;
}

-- what is listed of a file handle, where it is open
abbrev pub events_for : List OpenEvents → FhId → Option OpenEvents
events_for all fh = find (λ o. nat_eq fh.0 o.fh.0) all

-- the events of a file handle, as the history makes them
abbrev pub its_events : Verdicts → PlanData → Past → FhId → OpenEvents
its_events verdicts plan past fh = record { fh = fh; waiting = pending verdicts plan past fh; next = next_sequence verdicts plan past fh }

-- the events of each open file handle, in the order of their opening
abbrev pub all_events : Verdicts → PlanData → Past → List OpenEvents
all_events verdicts plan past = map (λ h. its_events verdicts plan past (record { 0 = h.0 })) (opened past)

-- each is its definition over the history
abbrev pub scratch : Verdicts → PlanData → Past → ScratchData
scratch verdicts plan past = record {
  ranges = ranges_now plan past;
  values = now verdicts plan past;
  flags = all_flags verdicts plan past;
  frames = frames verdicts plan past;
  forecasts = forecast verdicts plan past;
  events = all_events verdicts plan past;
}

-- Controls with their ranges, values, the flags that these have with grabs, requests with their queue, what the queued frames will have, and the events of some file handles,
-- each with its handler, are those of a scratch; what a begin applied doesn't count.
pub record HasParts (s : ScratchData) (plan : PlanData) (controls : ControlsData) (requests : FramesData) (rows : List Forecast) (handles : List (ℕ × ℕ)) (kept : EventsData) : Type 0 where
  pub ranges : s.ranges ≡ controls.ranges
  pub values : s.values ≡ controls.values
  pub flags : s.flags ≡ flags_of_all plan controls.values controls.grabs
  pub frames : IsLike s.frames requests
  pub forecasts : s.forecasts ≡ rows
  pub events : s.events ≡ open_events kept handles

-- All that a scratch has is what a history makes of a device, but for what a begin applied, which doesn't count.
pub record Agrees (verdicts : Verdicts) (plan : PlanData) (past : Past) (s : ScratchData) : Type 0 where
  pub ranges : s.ranges ≡ ranges_now plan past
  pub values : s.values ≡ now verdicts plan past
  pub flags : s.flags ≡ all_flags verdicts plan past
  pub frames : IsLike s.frames (frames verdicts plan past)
  pub forecasts : s.forecasts ≡ forecast verdicts plan past
  pub events : s.events ≡ all_events verdicts plan past
