-- What a row that a cluster gets changes (Linux driver API, "V4L2 Controls", "Control Clusters", and Linux userspace API, "Control Flags",
-- V4L2_CTRL_FLAG_EXECUTE_ON_WRITE).
use Rattle.std.specs.Prelude.{ℕ, Bool, false, not, ◌&&◌, ◌||◌, List, [], ◌∷◌}
use Rattle.ctrl_types.specs.Values.{is_same}
use Rattle.ctrl_types.specs.Flags.{contains}
use Rattle.ctrl_types.specs.declared.value.CtrlValue.{CtrlValue}
use Rattle.ctrl_types.specs.declared.flags.TheConstants.Flags.{EXECUTE_ON_WRITE}
use Rattle.ctrl_types.specs.declared.ids.Pair.{Pair}
use Rattle.ctrl_handlers.specs.Plan.{PlanData, control, members}
use Rattle.ctrl_clusters.specs.Rows.{Values, value_at, row_of}
use Rattle.ctrl_clusters.specs.Overlay.{is_among}

-- A control that gets a value where pairs are laid over values is changed where the value differs, or where the control acts on each write
-- and is among the pairs.
abbrev pub is_changed : PlanData → Values → List Pair → ℕ → CtrlValue → Bool
is_changed plan values pairs c value =
    not (is_same (value_at values c) value) || (contains (control plan c).flags EXECUTE_ON_WRITE && is_among pairs c)

-- a row that members get changes one of them
abbrev pub row_changes : PlanData → Values → List Pair → List ℕ → List CtrlValue → Bool
row_changes plan values pairs [] row = false
row_changes plan values pairs (c ∷ cs) [] = false
row_changes plan values pairs (c ∷ cs) (v ∷ vs) = is_changed plan values pairs c v || row_changes plan values pairs cs vs

-- whether a member of a cluster is changed, from the values before to those after
abbrev pub members_change : PlanData → Values → Values → List Pair → ℕ → Bool
members_change plan before after pairs k = row_changes plan before pairs (members plan k) (row_of after (members plan k))
