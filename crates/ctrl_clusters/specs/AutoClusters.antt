-- Which controls of an auto cluster are inactive (Linux driver API, "V4L2 Controls", "Handling autogain/gain-type Controls with Auto
-- Clusters").
use Rattle.std.specs.Prelude.{ℕ, ℤ, Bool, false, not, ◌&&◌, ◌==◌, Option, None, Some}
use Rattle.ctrl_types.specs.declared.value.CtrlValue.TheVariants.{Number}
use Rattle.ctrl_types.specs.Values.{is_same}
use Rattle.ctrl_types.specs.declared.value.CtrlValue.{CtrlValue}
use Rattle.ctrl_handlers.specs.ClusterData.{ClusterData}
use Rattle.ctrl_handlers.specs.Plan.{PlanData, cluster_of, cluster_at, master_of}
use Rattle.ctrl_clusters.specs.Rows.{Values, value_at}

-- there is a manual value, and this one is another
abbrev pub is_automatic : Option ℤ → CtrlValue → Bool
is_automatic None v = false
is_automatic (Some manual) v = not (is_same v (Number manual))

-- A member of a cluster is inactive exactly while it isn't the master and the value of the master isn't the manual value. In a
-- cluster that is no auto cluster none is.
abbrev pub inactive_in : ClusterData → Values → ℕ → Bool
inactive_in cluster values c = not (master_of cluster == c) && is_automatic cluster.manual (value_at values (master_of cluster))

-- the same of a control that is in the cluster with this number; one that is in none is active
abbrev pub inactive_at : PlanData → Values → ℕ → Option ℕ → Bool
inactive_at plan values c None = false
inactive_at plan values c (Some k) = inactive_in (cluster_at plan k) values c

-- whether a control is inactive at these values
unfoldable pub inactive : PlanData → Values → ℕ → Bool
inactive plan values c = inactive_at plan values c (cluster_of plan c)
