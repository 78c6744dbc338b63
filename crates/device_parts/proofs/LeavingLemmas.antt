-- What a step that leaves the controls leaves: file handles, grabs, ranges and values.
use Rattle.std.proofs.Common.{◌≡◌, ℕ, true, List, [], None, refl}
use Rattle.ctrl_calls.specs.Meanings.{Verdicts}
use Rattle.ctrl_handlers.specs.Plan.{PlanData}
use Rattle.ctrl_clusters.specs.ControlsData.{ControlsData}
use Rattle.device_history.specs.declared.ask.Step.{Step}
use Rattle.device_history.specs.declared.ask.Step.TheVariants as steps
use Rattle.device_history.specs.Steps.{Past}
use Rattle.device_history.specs.Handles.{opened_after}
use Rattle.device_history.specs.FrameSteps.{applied_by_step}
use Rattle.device_history.specs.Controls.{controls_after}
use Rattle.device_history.specs.Words.{pairs_applied}
use Rattle.device_parts.specs.Leaving.{leaves_controls}

pub opened_controls_left : (n : ℕ) (step : Step) (handles : List (ℕ × ℕ)) → leaves_controls step ≡ true → opened_after n step handles ≡ handles
opened_controls_left n (steps.OpenFh handler) handles leaves = cc
opened_controls_left n _ handles leaves = cc

pub controls_left : (verdicts : Verdicts) (plan : PlanData) (older : Past) (step : Step) (c : ControlsData) → leaves_controls step ≡ true → controls_after verdicts plan older step c ≡ c
controls_left verdicts plan older (steps.OpenFh handler) c leaves = cc
controls_left verdicts plan older _ c leaves = cc

pub given_controls_left : (verdicts : Verdicts) (plan : PlanData) (older : Past) (step : Step) → leaves_controls step ≡ true → applied_by_step verdicts plan older step ≡ []
given_controls_left verdicts plan older (steps.OpenFh handler) leaves = cc
given_controls_left verdicts plan older _ leaves = cc

pub acted_controls_left : (verdicts : Verdicts) (plan : PlanData) (older : Past) (step : Step) → leaves_controls step ≡ true → pairs_applied verdicts plan older step ≡ None
acted_controls_left verdicts plan older (steps.OpenFh handler) leaves = cc
acted_controls_left verdicts plan older _ leaves = cc
