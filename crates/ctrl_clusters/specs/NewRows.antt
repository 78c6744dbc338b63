-- Rows that some clusters get, each cluster once (Linux driver API, "V4L2 Controls", "Control Clusters").
use Rattle.std.specs.Prelude.{◌≡◌, ℕ, false, ◌<◌, ◌==◌, if◌then◌else◌, List, [], ◌∷◌, length, map, Option, None, Some, unwrap_or, slice_set}
use Rattle.std.specs.List.{All, range_with_len}
use Rattle.std.specs.Option.{option_and_then}
use Rattle.ctrl_types.specs.declared.value.CtrlValue.{CtrlValue}
use Rattle.ctrl_handlers.specs.Plan.{PlanData, cluster_of, members, names_twice}
use Rattle.ctrl_clusters.specs.Rows.{Values, value_at, member_value}
use Rattle.ctrl_clusters.specs.declared.new_row.NewRow.{NewRow}

-- the clusters that get rows
abbrev pub clusters_of : List NewRow → List ℕ
clusters_of rows = map (λ r. r.cluster) rows

-- the row that a cluster gets, where it gets one
abbrev pub row_among : List NewRow → ℕ → Option (List CtrlValue)
row_among [] k = None
row_among (r ∷ rows) k = if r.cluster == k then Some r.row else row_among rows k

-- the value that rows give a control in this cluster, where it is one of the cluster's members
abbrev pub value_among : PlanData → List NewRow → Option ℕ → ℕ → Option CtrlValue
value_among plan rows None c = None
value_among plan rows (Some k) c = option_and_then (λ row. member_value (members plan k) row c) (row_among rows k)

-- The rows are of clusters that are there, each once, with a value for each member.
pub record AreNewRows (plan : PlanData) (rows : List NewRow) : Type 0 where
  pub differ : names_twice (clusters_of rows) ≡ false
  pub within : All (λ r. r.cluster < length plan.clusters) rows
  pub long : All (λ r. length r.row ≡ length (members plan r.cluster)) rows

-- the value of a control once the rows are written: the one that they give it, or else its own
abbrev pub value_written : PlanData → Values → List NewRow → ℕ → CtrlValue
value_written plan values rows c = unwrap_or (value_among plan rows (cluster_of plan c) c) (value_at values c)

-- the values once the rows are written
unfoldable pub written : PlanData → Values → List NewRow → Values
written plan values rows = map (value_written plan values rows) (range_with_len 0 (length values))

-- the row of one cluster alone
abbrev pub one_row : ℕ → List CtrlValue → List NewRow
one_row k row = record { cluster = k; row = row } ∷ []

-- the values, where members have those of a row
abbrev pub with_row : Values → List ℕ → List CtrlValue → Values
with_row values [] row = values
with_row values (c ∷ cs) [] = values
with_row values (c ∷ cs) (v ∷ vs) = with_row (slice_set values c v) cs vs

-- Rows that are kept: themselves, and for how many there is room.
pub record NewRowsData : Type 0 where
  pub rows : List NewRow
  pub room : ℕ
