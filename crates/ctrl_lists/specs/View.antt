-- What a list of controls is checked against, and what its entries name (Linux userspace API, "struct v4l2_ext_controls", "Control
-- Flags"; that a DISABLED control can't be read either is of this project).
use Rattle.std.specs.Prelude.{ℕ, Bool, true, not, ◌==◌, ◌&&◌, if◌then◌else◌, List, Option, None, Some}
use Rattle.std.specs.List.{filter_map, list_any}
use Rattle.std.specs.Option.{option_map}
use Rattle.ctrl_types.specs.Classes.{class_of}
use Rattle.ctrl_types.specs.Flags.{contains}
use Rattle.ctrl_types.specs.declared.flags.TheConstants.Flags.{DISABLED}
use Rattle.ctrl_types.specs.declared.ids.CtrlId.{CtrlId}
use Rattle.ctrl_types.specs.declared.ids.ExtControl.{ExtControl}
use Rattle.ctrl_types.specs.declared.ids.Pair.{Pair}
use Rattle.ctrl_types.specs.declared.which.Which.{Which}
use Rattle.ctrl_types.specs.declared.which.Which.TheVariants.{Class}
use Rattle.ctrl_settle.specs.Control.{Control}
use Rattle.ctrl_handlers.specs.Plan.{PlanData, control}
use Rattle.ctrl_handlers.specs.Visible.{visible, find}
use Rattle.ctrl_clusters.specs.Rows.{Values, Grabs}

-- The handler that shows the controls; which values the list speaks of; the controls with their ranges of the moment, a value for each, and whether it is
-- grabbed; and the pairs that are laid over the values before the list's own, the oldest first.
pub record ViewData : Type 0 where
  pub handler : ℕ
  pub which : Which
  pub ranges : List Control
  pub values : Values
  pub grabs : Grabs
  pub asked : List Pair

-- a list about a class speaks of the controls of this class alone; every other list of all
abbrev pub is_meant : Which → CtrlId → Bool
is_meant (Class n) id = class_of id.0 == n
is_meant _ id = true

-- a control that is shown under an id, where the list speaks of it and it isn't DISABLED
abbrev pub meant_one : PlanData → Which → CtrlId → Option ℕ → Option ℕ
meant_one plan which id None = None
meant_one plan which id (Some c) = if is_meant which id && not (contains (control plan c).flags DISABLED) then Some c else None

-- the control that an id names, in a list that a handler gets: it is shown, the list speaks of it, and it isn't DISABLED
abbrev pub named : PlanData → ℕ → Which → CtrlId → Option ℕ
named plan handler which id = meant_one plan which id (find plan handler id)

-- an entry's control, with the value as it was given
abbrev pub pair_of : PlanData → ℕ → Which → ExtControl → Option Pair
pair_of plan handler which entry = option_map (λ c. record { control = c; value = entry.value }) (named plan handler which entry.id)

-- The pairs of a list: those of the entries that name a control, in the order of the entries.
abbrev pub pairs_of : PlanData → ℕ → Which → List ExtControl → List Pair
pairs_of plan handler which list = filter_map (pair_of plan handler which) list

-- some control that is shown is of a class
abbrev pub shows_class : PlanData → ℕ → ℕ → Bool
shows_class plan handler n = list_any (λ c. class_of (control plan c).id.0 == n) (visible plan handler)
