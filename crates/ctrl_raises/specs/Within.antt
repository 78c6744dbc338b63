-- What differs between two moments where some clusters alone were touched.
use Rattle.std.specs.Prelude.{◌≡◌, ◌<◌, ◌≤◌, ℕ, true, false, nat_eq, List, length}
use Rattle.std.specs.List.{list_any}
use Rattle.ctrl_types.specs.declared.ids.Pair.{Pair}
use Rattle.ctrl_handlers.specs.Plan.{PlanData, cluster_of, control_in, members}
use Rattle.ctrl_clusters.specs.ControlsData.{ControlsData, DifferIn, is_in_one_of}
use Rattle.ctrl_clusters.specs.Overlay.{is_touched}
use Rattle.ctrl_clusters.specs.Rows.{is_grabbed}

-- Nothing differs outside of some clusters: each control of another one has its range and its value, and is grabbed or not, as it was, and none of them is among the pairs.
pub record DifferWithin (plan : PlanData) (clusters : List ℕ) (before after : ControlsData) (pairs : List Pair) : Type 0 where
  pub ranges_stay : (c : ℕ) → is_in_one_of clusters (cluster_of plan c) ≡ false → control_in before.ranges c ≡ control_in after.ranges c
  pub values_stay : DifferIn plan clusters before.values after.values
  pub grabs_stay : (c : ℕ) → is_in_one_of clusters (cluster_of plan c) ≡ false → is_grabbed before.grabs c ≡ is_grabbed after.grabs c
  pub unasked : (k : ℕ) → k < length plan.clusters → list_any (nat_eq k) clusters ≡ false → is_touched pairs (members plan k) ≡ false

-- The next member of some clusters: the least of them from one number on, or the end, where none comes before it.
pub record IsNextMember (plan : PlanData) (clusters : List ℕ) (from end next : ℕ) : Type 0 where
  pub starts : from ≤ next
  pub ends : next ≤ end
  pub among : next < end → list_any (λ k. list_any (nat_eq next) (members plan k)) clusters ≡ true
  pub first : (c k : ℕ) → from ≤ c → c < next → list_any (nat_eq k) clusters ≡ true → list_any (nat_eq c) (members plan k) ≡ false
