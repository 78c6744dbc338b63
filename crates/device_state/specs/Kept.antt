-- What a device keeps true of its parts: each is its definition over the steps (of this project).
use Rattle.std.specs.Prelude.{◌≡◌, ℕ, ◌≤◌, List, length}
use Rattle.history.specs.Past.{past}
use Rattle.ctrl_handlers.specs.Plan.{IsFinished, PlanData}
use Rattle.ctrl_calls.specs.Meanings.{Verdicts, Words}
use Rattle.device_history.specs.declared.limits.TheConstants.{MAX_STEPS}
use Rattle.device_history.specs.Steps.{History}
use Rattle.device_history.specs.Forecasts.{board}
use Rattle.ctrl_forecast.specs.Boards.{BoardData}
use Rattle.ctrl_clusters.specs.Notified.{HaveWords}
use Rattle.device_parts.specs.State.{IsMade, StateData}

-- what a device keeps beside its plan and its steps
pub record Caches : Type 0 where
  -- what the steps make
  pub state : StateData
  -- the queued frames, with what they will have
  pub board : BoardData
  -- the words that clusters were told last
  pub words : List ℕ

-- The steps came about and are not more than are kept; each part is what they make of it. The words alone aren't determined by them:
-- each cluster has one that it may have been told of its row.
pub record IsKept (verdicts : Verdicts) (told : Words) (plan : PlanData) (steps : History) (caches : Caches) : Type 0 where
  pub plans : IsFinished plan
  pub few : length steps ≤ MAX_STEPS
  pub made : IsMade verdicts plan steps caches.state
  pub board : caches.board ≡ board verdicts plan (past steps)
  pub words : HaveWords told plan caches.state.controls.values caches.words
