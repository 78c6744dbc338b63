-- The ranges, the values and the grabs of a device's controls.
use Rattle.std.specs.Prelude.{◌≡◌, ℕ, Bool, false, List, map, nat_eq, slice_set, Option, None, Some}
use Rattle.std.specs.List.{list_any}
use Rattle.ctrl_types.specs.declared.value.CtrlValue.{CtrlValue}
use Rattle.ctrl_settle.specs.Control.{Control, default_of}
use Rattle.ctrl_handlers.specs.Plan.{PlanData, cluster_of}
use Rattle.ctrl_clusters.specs.Ranges.{modified}
use Rattle.ctrl_clusters.specs.Rows.{Grabs, Values, value_at}

-- the ranges, the values and the grabs of a device's controls
pub record ControlsData : Type 0 where
  pub ranges : List Control
  pub values : Values
  pub grabs : Grabs

-- these ranges, values and grabs as one
abbrev pub as_one : List Control → Values → Grabs → ControlsData
as_one ranges values grabs = record { ranges = ranges; values = values; grabs = grabs }

-- what a device starts with: the plan's ranges, the defaults, and no grabs
abbrev pub at_start : PlanData → ControlsData
at_start plan = as_one plan.controls (map default_of plan.controls) (map (λ _. false) plan.controls)

-- one control has another range, and a value under it
abbrev pub given_range : ControlsData → ℕ → Control → CtrlValue → ControlsData
given_range c control changed value = as_one (modified c.ranges control changed) (slice_set c.values control value) c.grabs

-- the cluster that a control is in is one of some
abbrev pub is_in_one_of : List ℕ → Option ℕ → Bool
is_in_one_of clusters None = false
is_in_one_of clusters (Some k) = list_any (nat_eq k) clusters

-- Values differ in some clusters at most: the controls of others have the values that they had.
abbrev pub DifferIn : PlanData → List ℕ → Values → Values → Type 0
DifferIn plan clusters before after = (c : ℕ) → is_in_one_of clusters (cluster_of plan c) ≡ false → value_at before c ≡ value_at after c
