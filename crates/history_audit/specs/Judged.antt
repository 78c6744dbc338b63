-- The list that is made of the pairs of a step, and how it is judged (of this project).
use Rattle.std.specs.Prelude.{◌≡◌, ℕ, true, List, None}
use Rattle.ctrl_types.specs.declared.ids.Pair.{Pair}
use Rattle.ctrl_types.specs.declared.which.Which.{Which}
use Rattle.ctrl_calls.specs.Meanings.{Verdicts}
use Rattle.ctrl_handlers.specs.Plan.{PlanData}
use Rattle.ctrl_lists.specs.View.{ViewData, pairs_of}
use Rattle.ctrl_lists.specs.Checks.{first_refusal, write_checks}
use Rattle.ctrl_lists.specs.Answers.{entries_judged}
use Rattle.ctrl_lists.specs.Touched.{TouchedData, IsTouched}
use Rattle.device_history.specs.Ranges.{ranges_now}
use Rattle.device_history.specs.Steps.{Past}
use Rattle.device_history.specs.Grabs.{grabbed}
use Rattle.device_history.specs.Values.{now}
use Rattle.device_history.specs.Asking.{entries_of}

-- what pairs are judged against: the present ranges, values and grabs, with these pairs laid before them
abbrev pub view_of : Verdicts → PlanData → Past → ℕ → Which → List Pair → ViewData
view_of verdicts plan past handler which asked = record {
  handler = handler;
  which = which;
  ranges = ranges_now plan past;
  values = now verdicts plan past;
  grabs = grabbed plan past;
  asked = asked;
}

-- The list of the pairs can be set, it names their controls, and this is what it makes of the clusters that it touches.
pub record IsSet (verdicts : Verdicts) (plan : PlanData) (view : ViewData) (pairs : List Pair) (touch : TouchedData) : Type 0 where
  pub accepted : first_refusal (write_checks verdicts plan view true (entries_of plan pairs)) ≡ None
  pub answers : touch.answers ≡ entries_judged verdicts plan view (entries_of plan pairs)
  pub touches : IsTouched verdicts plan view (entries_of plan pairs) touch
  pub own_pairs : touch.pairs ≡ pairs

-- The list can't be set, or it doesn't name their controls.
abbrev pub IsUnset : Verdicts → PlanData → ViewData → List Pair → Type 0
IsUnset verdicts plan view pairs =
    first_refusal (write_checks verdicts plan view true (entries_of plan pairs)) ≡ None → pairs_of plan view.handler view.which (entries_of plan pairs) ≡ pairs → ⊥
