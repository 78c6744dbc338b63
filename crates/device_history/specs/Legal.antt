-- Which histories can come about (of this project).
use Rattle.std.specs.Prelude.{◌≡◌, [], ◌∷◌, None, Some}
use Rattle.device_history.specs.declared.ask.Ask.{Ask}
use Rattle.device_history.specs.declared.ask.Step.{Step}
use Rattle.ctrl_handlers.specs.Plan.{PlanData}
use Rattle.ctrl_calls.specs.Meanings.{Verdicts}
use Rattle.device_history.specs.Steps.{Past}
use Rattle.device_history.specs.Answers.{refusal, step_of}

-- some ask that nothing refuses adds it
abbrev pub MayFollow : Verdicts → PlanData → Past → Step → Type 0
MayFollow verdicts plan past step = (ask : Ask) × (refusal verdicts plan past ask ≡ None) × (step_of verdicts plan past ask ≡ Some step)

-- each step is one that may follow what is older
unfoldable pub IsLegal : Verdicts → PlanData → Past → Type 0
IsLegal verdicts plan [] = Unit {0}
IsLegal verdicts plan (e ∷ older) = IsLegal verdicts plan older × MayFollow verdicts plan older e.step

pub IsLegal-start : (verdicts : Verdicts) (plan : PlanData) → IsLegal verdicts plan []
unfolding IsLegal
IsLegal-start verdicts plan = tt
