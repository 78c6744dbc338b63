-- The ranges, the values and the grabs of all controls as one, step by step.
use Rattle.std.proofs.Common.{◌≡◌, ◌∙◌, [], ◌∷◌, ◌++◌, ap}
use Rattle.history.specs.declared.entry.Entry.{Entry}
use Rattle.history.specs.Past.{past}
use Rattle.history.proofs.Pasts.{past_add}
use Rattle.ctrl_calls.specs.Meanings.{Verdicts}
use Rattle.ctrl_clusters.specs.ControlsData.{ControlsData, as_one, at_start}
use Rattle.ctrl_handlers.specs.Plan.{PlanData}
use Rattle.device_history.specs.declared.ask.Step.{Step}
use Rattle.device_history.specs.Steps.{History, Past}
use Rattle.device_history.specs.Controls.{controls_now, controls_after}
use Rattle.device_history.proofs.GrabLemmas.{grabbed_more, grabbed_start}
use Rattle.device_history.proofs.PastLemmas.{now_more, now_start}
use Rattle.device_history.proofs.RangeLemmas.{ranges_more, ranges_start}

-- the parts of what is the same
pub ranges_of : {a b : ControlsData} → a ≡ b → a.ranges ≡ b.ranges
ranges_of same = ap (λ (c : ControlsData). c.ranges) same

pub values_of : {a b : ControlsData} → a ≡ b → a.values ≡ b.values
values_of same = ap (λ (c : ControlsData). c.values) same

pub grabs_of : {a b : ControlsData} → a ≡ b → a.grabs ≡ b.grabs
grabs_of same = ap (λ (c : ControlsData). c.grabs) same

-- what is the same in all parts
pub all_of : {a b : ControlsData} → a.ranges ≡ b.ranges → a.values ≡ b.values → a.grabs ≡ b.grabs → a ≡ b
all_of r v g = λ i. as_one (r i) (v i) (g i)

pub controls_start : (verdicts : Verdicts) (plan : PlanData) → controls_now verdicts plan (past []) ≡ at_start plan
controls_start verdicts plan = all_of (ranges_start plan) (now_start verdicts plan) (grabbed_start plan)

pub controls_more : (verdicts : Verdicts) (plan : PlanData) (e : Entry Step) (older : Past) → controls_now verdicts plan (e ∷ older) ≡ controls_after verdicts plan older e.step (controls_now verdicts plan older)
controls_more verdicts plan e older = all_of (ranges_more plan e older) (now_more verdicts plan e older) (grabbed_more plan e older)

pub controls_add : (verdicts : Verdicts) (plan : PlanData) (steps : History) (e : Entry Step)
    → controls_now verdicts plan (past (steps ++ e ∷ [])) ≡ controls_after verdicts plan (past steps) e.step (controls_now verdicts plan (past steps))
controls_add verdicts plan steps e = rw (past_add steps e) (controls_more verdicts plan e (past steps))

-- where a step is known
pub controls_stepped : (verdicts : Verdicts) (plan : PlanData) (e : Entry Step) (older : Past) (step : Step) → e.step ≡ step → controls_now verdicts plan (e ∷ older) ≡ controls_after verdicts plan older step (controls_now verdicts plan older)
controls_stepped verdicts plan e older step is = controls_more verdicts plan e older ∙ ap (λ (s : Step). controls_after verdicts plan older s (controls_now verdicts plan older)) is
