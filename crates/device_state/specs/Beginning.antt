-- A frame that can begin (of this project).
use Rattle.std.specs.Prelude.{◌≡◌, ℕ, false, List, None, Some}
use Rattle.ctrl_types.specs.declared.ids.Pair.{Pair}
use Rattle.ctrl_calls.specs.Meanings.{Verdicts}
use Rattle.ctrl_handlers.specs.Plan.{PlanData}
use Rattle.device_history.specs.Steps.{Past}
use Rattle.device_history.specs.Frames.{first_of, queue, running}
use Rattle.device_history.specs.Snapshots.{begun_pairs}
use Rattle.device_history.specs.Refusals.{is_full}

-- A frame that can begin: none is being made, its request is the first that waits, there is room for one more step, and these of its pairs are
-- applied.
pub record IsBegun (verdicts : Verdicts) (plan : PlanData) (older : Past) (r : ℕ) (applied : List Pair) : Type 0 where
  pub free : running older ≡ None
  pub first : first_of (queue older) ≡ Some r
  pub room : is_full older ≡ false
  pub are_applied : applied ≡ begun_pairs verdicts plan older r
