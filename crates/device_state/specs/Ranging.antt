-- Another range for a control (of this project).
use Rattle.std.specs.Prelude.{◌≡◌, ℕ, Ok}
use Rattle.ctrl_settle.specs.Control.{Control, with_range}
use Rattle.ctrl_handlers.specs.Plan.{PlanData, control_in}
use Rattle.device_history.specs.declared.ask.Reply.TheVariants.{Done}
use Rattle.device_history.specs.declared.ask.Step.{Step}
use Rattle.device_history.specs.declared.ask.Step.TheVariants.{ModifyRange}
use Rattle.device_history.specs.Steps.{Past}
use Rattle.device_history.specs.Ranges.{range_answer, ranges_now}

-- the step that gives a control the range of another
abbrev pub range_step : ℕ → Control → Step
range_step c changed = ModifyRange c changed.minimum changed.maximum changed.step changed.default_value

-- A control that can be given a range: it is the one of its number, with that range, and nothing refuses it.
pub record IsRanged (plan : PlanData) (older : Past) (c : ℕ) (changed : Control) : Type 0 where
  pub accepted : range_answer plan older c changed.minimum changed.maximum changed.step changed.default_value ≡ Ok Done
  pub its_own : changed ≡ with_range (control_in (ranges_now plan older) c) changed.minimum changed.maximum changed.step changed.default_value
