-- The state of a device, and what the steps of a history make of it (of this project).
use Rattle.std.specs.Prelude.{◌≡◌, ℕ, ◌+◌, ◌≤◌, List, [], length, None}
use Rattle.history.specs.Past.{past}
use Rattle.ctrl_calls.specs.Meanings.{Verdicts}
use Rattle.ctrl_types.specs.declared.ids.FhId.{FhId}
use Rattle.ctrl_events.specs.Events.{EventsData, events_of, no_events}
use Rattle.ctrl_handlers.specs.Plan.{IsPlan, PlanData}
use Rattle.ctrl_clusters.specs.ControlsData.{ControlsData, at_start}
use Rattle.ctrl_clusters.specs.Rows.{AreControlsOf}
use Rattle.frame_queue.specs.Frames.{FramesData}
use Rattle.device_history.specs.Steps.{History}
use Rattle.device_history.specs.Handles.{opened}
use Rattle.device_history.specs.Controls.{controls_now}
use Rattle.device_history.specs.Snapshots.{frames}
use Rattle.device_history.specs.EventSteps.{AreEvents}
use Rattle.device_history.specs.Legal.{IsLegal}

-- the state of a device
pub record StateData : Type 0 where
  -- the open file handles, each with its handler
  pub file_handles : List (ℕ × ℕ)
  -- the present ranges, values and grabs
  pub controls : ControlsData
  -- the requests and the queue
  pub frames : FramesData
  -- the events of file handles
  pub events : EventsData

-- What a device starts with: no file handle is open, the controls are as the plan has them, no request is there, and nobody is subscribed.
pub record IsStart (plan : PlanData) (state : StateData) : Type 0 where
  pub file_handles : state.file_handles ≡ []
  pub controls : state.controls ≡ at_start plan
  pub frames : state.frames ≡ record { requests = record { controls = length plan.controls; all = [] }; queue = []; running = None }
  pub events : (j : ℕ) → events_of state.events j ≡ no_events

-- Steps came about, and each part of the state is what they make of it.
pub record IsMade (verdicts : Verdicts) (plan : PlanData) (steps : History) (state : StateData) : Type 0 where
  pub plans : IsPlan plan
  pub legal : IsLegal verdicts plan (past steps)
  pub file_handles : state.file_handles ≡ opened (past steps)
  pub controls : state.controls ≡ controls_now verdicts plan (past steps)
  pub frames : state.frames ≡ frames verdicts plan (past steps)
  pub events : (fh : FhId) → AreEvents verdicts plan (past steps) fh (events_of state.events fh.0)

-- A state that a step can change: its controls are the plan's, each with a value and a grab, and there is a number for each event that one step raises.
pub record IsReady (plan : PlanData) (state : StateData) : Type 0 where
  pub ranges : AreControlsOf plan state.controls.ranges
  pub valued : length state.controls.values ≡ length state.controls.ranges
  pub held : length state.controls.grabs ≡ length state.controls.ranges
  pub numbers : (j : ℕ) → (events_of state.events j).next + length plan.controls ≤ 4294967295
