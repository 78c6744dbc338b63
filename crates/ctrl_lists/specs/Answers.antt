-- What a list of controls is answered (Linux userspace API, "ioctl VIDIOC_G_EXT_CTRLS, VIDIOC_S_EXT_CTRLS, VIDIOC_TRY_EXT_CTRLS";
-- which index a refusal has is of this project).
use Rattle.std.specs.Prelude.{ℕ, Bool, false, not, List, [], ◌∷◌, map, Option, None, Some, Result, Ok, Err}
use Rattle.ctrl_types.specs.declared.value.CtrlValue.{CtrlValue}
use Rattle.ctrl_types.specs.declared.errno.Fault.{Fault}
use Rattle.ctrl_types.specs.declared.ids.ExtControl.{ExtControl}
use Rattle.ctrl_types.specs.declared.ids.Pair.{Pair}
use Rattle.ctrl_types.specs.declared.which.Which.{Which}
use Rattle.ctrl_types.specs.declared.which.Which.TheVariants.{Defaults}
use Rattle.ctrl_calls.specs.Meanings.{Verdicts}
use Rattle.ctrl_settle.specs.Control.{Control, default_of}
use Rattle.ctrl_handlers.specs.Plan.{PlanData, control, control_in}
use Rattle.ctrl_clusters.specs.Rows.{Values, value_at}
use Rattle.ctrl_clusters.specs.Overlay.{value_after, no_grabs}
use Rattle.ctrl_types.specs.declared.refusal.Refusal.{Refusal}
use Rattle.ctrl_lists.specs.View.{ViewData, pairs_of}
use Rattle.ctrl_lists.specs.Checks.{is_long, pairs_judged}

-- what a list is answered: its entries with their values, or a fault
abbrev pub ListAnswer : Type 0
ListAnswer = Result (List ExtControl) Fault

-- the entries, unless something refuses the list
abbrev pub answered : (Refusal → Fault) → Option Refusal → List ExtControl → ListAnswer
answered fault (Some refusal) entries = Err (fault refusal)
answered fault None entries = Ok entries

-- the value that a control is read with: its default where the list speaks of the defaults, else the one that it has
abbrev pub value_read : List Control → Values → Which → ℕ → CtrlValue
value_read controls values Defaults c = default_of (control_in controls c)
value_read controls values _ c = value_at values c

-- a control, as it is read
abbrev pub entry_read : PlanData → ViewData → Pair → ExtControl
entry_read plan view p = record { id = (control plan p.control).id; value = value_read view.ranges view.values view.which p.control }

-- the entries that a list that reads is answered
abbrev pub entries_read : PlanData → ViewData → List ExtControl → List ExtControl
entries_read plan view list = map (entry_read plan view) (pairs_of plan view.handler view.which list)

-- The value that a control has once its cluster was judged.
abbrev pub value_judged : Verdicts → PlanData → ViewData → List Pair → ℕ → CtrlValue
value_judged verdicts plan view pairs c = value_after verdicts plan view.ranges view.values no_grabs pairs c

-- a control, with the value that its judged cluster gives it
abbrev pub entry_judged : Verdicts → PlanData → ViewData → List Pair → Pair → ExtControl
entry_judged verdicts plan view pairs p = record { id = (control plan p.control).id; value = value_judged verdicts plan view pairs p.control }

-- the entries that a list that writes is answered
abbrev pub entries_judged : Verdicts → PlanData → ViewData → List ExtControl → List ExtControl
entries_judged verdicts plan view list = map (entry_judged verdicts plan view (pairs_judged plan view list)) (pairs_of plan view.handler view.which list)

-- Want of memory may stand in place of the answer of every list that has entries, and not too many.
abbrev pub may_lack : List ExtControl → Bool
may_lack [] = false
may_lack (entry ∷ rest) = not (is_long (entry ∷ rest))
