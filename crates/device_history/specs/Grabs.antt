-- Grabs: which controls are grabbed after a history, and what grabbing is answered (Linux driver API, "V4L2 Controls",
-- `v4l2_ctrl_grab`).
use Rattle.std.specs.Prelude.{ℕ, Bool, false, nat_eq, nat_le, map, slice_set, if◌then◌else◌, List, length, Option, None, Some, unwrap_or}
use Rattle.std.specs.List.{filter_map, range_with_len}
use Rattle.std.specs.Map.{lookup}
use Rattle.ctrl_types.specs.declared.check.Check.{Check}
use Rattle.ctrl_types.specs.declared.check.Check.TheVariants.{ControlMissing}
use Rattle.ctrl_clusters.specs.Rows.{Grabs}
use Rattle.device_history.specs.declared.ask.Reply.TheVariants.{Done}
use Rattle.device_history.specs.Refusals.{Answer, stepped}
use Rattle.device_history.specs.declared.ask.Step.{Step}
use Rattle.device_history.specs.declared.ask.Step.TheVariants.{Grab}
use Rattle.ctrl_handlers.specs.Plan.{PlanData}
use Rattle.device_history.specs.Steps.{Past}

-- the control that a step grabs or lets go, and whether it grabs it
abbrev pub grab_made : Step → Option (ℕ × Bool)
grab_made (Grab c on) = Some (c, on)
grab_made _ = None

-- the grabs of a history, newest first
unfoldable pub grabs_made : Past → List (ℕ × Bool)
grabs_made past = filter_map (λ e. grab_made e.step) past

-- the last grab of a control holds it
abbrev pub last_grab_is_on : Past → ℕ → Bool
last_grab_is_on past c = unwrap_or (lookup (nat_eq c) (grabs_made past)) false

-- For each control of the plan, whether its last grab holds it.
unfoldable pub grabbed : PlanData → Past → Grabs
grabbed plan past = map (last_grab_is_on past) (range_with_len 0 (length plan.controls))

-- what a step makes of the grabs, as the law `present_controls` says: a grab holds one control, or lets it go
abbrev pub grabbed_after : Step → Grabs → Grabs
grabbed_after (Grab c on) grabs = slice_set grabs c on
grabbed_after _ grabs = grabs

-- Why a control isn't grabbed or let go: there is no such control.
abbrev pub grab_check : PlanData → ℕ → Option Check
grab_check plan c = if nat_le (length plan.controls) c then Some ControlMissing else None

-- Grabbing a control, or letting it go: any control can be grabbed, and a grab that holds already is accepted.
abbrev pub grab_answer : PlanData → Past → ℕ → Answer
grab_answer plan past c = stepped (grab_check plan c) past Done
