-- The range of each control after a history, and what giving a control another one is answered (Linux driver API, "V4L2 Controls",
-- `v4l2_ctrl_modify_range`; that neither a grab nor a validator refuses it, that a default which the range doesn't take does, and that the default stands in
-- where the range takes no value are of this project).
use Rattle.std.specs.Prelude.{ℕ, ℤ, nat_eq, nat_le, if◌then◌else◌, List, length, map, filter_map, slice_set, Option, None, Some}
use Rattle.std.specs.List.{range_with_len}
use Rattle.std.specs.Map.{lookup}
use Rattle.std.specs.Option.{option_map}
use Rattle.ctrl_types.specs.declared.check.Check.{Check}
use Rattle.ctrl_types.specs.declared.check.Check.TheVariants.{ControlMissing}
use Rattle.ctrl_settle.specs.Control.{Control, with_range}
use Rattle.ctrl_settle.specs.Faults.{range_check_of}
use Rattle.ctrl_settle.specs.FirstFault.{first_fault}
use Rattle.ctrl_settle.specs.Settle.{settled_anew}
use Rattle.ctrl_handlers.specs.Plan.{PlanData, control, control_in}
use Rattle.ctrl_clusters.specs.Ranges.{modified}
use Rattle.ctrl_clusters.specs.Rows.{Values, value_at}
use Rattle.device_history.specs.declared.ask.Reply.TheVariants.{Done}
use Rattle.device_history.specs.declared.ask.Step.{Step}
use Rattle.device_history.specs.declared.ask.Step.TheVariants.{ModifyRange}
use Rattle.device_history.specs.Refusals.{Answer, stepped}
use Rattle.device_history.specs.Steps.{Past}

-- what a control's range is made of
pub record RangeData : Type 0 where
  pub minimum : ℤ
  pub maximum : ℤ
  pub step : ℕ
  pub default_value : ℤ

-- a control with this range
abbrev pub ranged : Control → RangeData → Control
ranged ctrl range = with_range ctrl range.minimum range.maximum range.step range.default_value

-- the control that a step gives another range, and this range
abbrev pub range_made : Step → Option (ℕ × RangeData)
range_made (ModifyRange c low high apart default_value) = Some (c, record { minimum = low; maximum = high; step = apart; default_value = default_value })
range_made _ = None

-- the range changes of a history, newest first
unfoldable pub ranges_made : Past → List (ℕ × RangeData)
ranges_made past = filter_map (λ e. range_made e.step) past

-- a control with another range, where it was given one
abbrev pub ranged_if_given : Control → Option RangeData → Control
ranged_if_given ctrl None = ctrl
ranged_if_given ctrl (Some range) = ranged ctrl range

-- A control after a history: as the plan describes it, with the range of its last range change, where it has had one.
abbrev pub control_now : PlanData → Past → ℕ → Control
control_now plan past c = ranged_if_given (control plan c) (lookup (nat_eq c) (ranges_made past))

-- The controls with their ranges after a history, in the order of their numbers.
unfoldable pub ranges_now : PlanData → Past → List Control
ranges_now plan past = map (control_now plan past) (range_with_len 0 (length plan.controls))

-- one of these controls, with another range
abbrev pub control_with_range : List Control → ℕ → ℤ → ℤ → ℕ → ℤ → Control
control_with_range controls c low high apart default_value = with_range (control_in controls c) low high apart default_value

-- what a step makes of them, as the law `present_controls` says: a range change gives one control another range
abbrev pub ranges_after : Step → List Control → List Control
ranges_after (ModifyRange c low high apart default_value) controls = modified controls c (control_with_range controls c low high apart default_value)
ranges_after _ controls = controls

-- What a step makes of the values, under the ranges before it, by giving a control another range: its value is settled anew by that range, and is the new
-- default where it takes none. Its cluster isn't judged.
abbrev pub settled_after : Step → List Control → Values → Values
settled_after (ModifyRange c low high apart default_value) controls values = slice_set values c (settled_anew (control_with_range controls c low high apart default_value) (value_at values c))
settled_after _ controls values = values

-- Why a control isn't given another range: there is no such control; the control with this range, and else as its driver described it, has a fault.
abbrev pub range_check : PlanData → Past → ℕ → ℤ → ℤ → ℕ → ℤ → Option Check
range_check plan past c low high apart default_value =
    if nat_le (length plan.controls) c then Some ControlMissing
    else option_map range_check_of (first_fault (control_with_range (ranges_now plan past) c low high apart default_value))

-- Giving a control another range: neither a grab nor a flag of the control refuses it.
abbrev pub range_answer : PlanData → Past → ℕ → ℤ → ℤ → ℕ → ℤ → Answer
range_answer plan past c low high apart default_value = stepped (range_check plan past c low high apart default_value) past Done
