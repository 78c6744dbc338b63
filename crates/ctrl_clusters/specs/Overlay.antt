-- Pairs laid over values, cluster by cluster (of this project; what a cluster makes of a row is of the Linux driver API, "V4L2 Controls",
-- "Control Clusters"). Whatever lays pairs over values does so in this one way: sets, tries, begins and forecasts do.
use Rattle.std.specs.Prelude.{ℕ, Bool, not, ◌==◌, ◌&&◌, if◌then◌else◌, List, [], length, map, filter, Option, None, Some, unwrap_or, Result, Ok, Err, is_err}
use Rattle.std.specs.List.{list_any, range_with_len}
use Rattle.ctrl_types.specs.declared.value.CtrlValue.{CtrlValue}
use Rattle.ctrl_types.specs.declared.errno.Errno.{Errno}
use Rattle.ctrl_types.specs.declared.errno.Errno.TheVariants.{EBUSY}
use Rattle.ctrl_types.specs.declared.ids.Pair.{Pair}
use Rattle.ctrl_calls.specs.Meanings.{Verdicts}
use Rattle.ctrl_settle.specs.Control.{Control}
use Rattle.ctrl_handlers.specs.Plan.{PlanData, cluster_of, members}
use Rattle.ctrl_clusters.specs.Rows.{Values, value_at, member_value, row_of, Grabs, is_grabbed}
use Rattle.ctrl_clusters.specs.Judging.{validated_row}

-- a control is among pairs
abbrev pub is_among : List Pair → ℕ → Bool
is_among pairs c = list_any (λ p. p.control == c) pairs

-- some member is
abbrev pub is_touched : List Pair → List ℕ → Bool
is_touched pairs members = list_any (is_among pairs) members

-- some member that is among the pairs is grabbed
abbrev pub names_grabbed : Grabs → List Pair → List ℕ → Bool
names_grabbed grabs pairs members = list_any (λ c. is_among pairs c && is_grabbed grabs c) members

-- What the row of a cluster is once pairs were laid over the values, or why it is refused. One without a member among the pairs keeps its
-- row, and isn't judged. It is refused where a member among the pairs is grabbed, where a member doesn't settle, and where judging refuses.
abbrev pub row_after : Verdicts → PlanData → List Control → Values → Grabs → List Pair → ℕ → Result (List CtrlValue) Errno
row_after verdicts plan controls values grabs pairs k =
    if not (is_touched pairs (members plan k)) then Ok (row_of values (members plan k))
    else if names_grabbed grabs pairs (members plan k) then Err EBUSY
    else validated_row verdicts plan controls values pairs k

-- the value that a cluster's row gives one of the members; a refused one gives none
abbrev pub result_value : List ℕ → Result (List CtrlValue) Errno → ℕ → Option CtrlValue
result_value members (Ok row) c = member_value members row c
result_value members (Err errno) c = None

-- the same, of the cluster that the control is in
abbrev pub result_value_in : PlanData → (ℕ → Result (List CtrlValue) Errno) → Option ℕ → ℕ → Option CtrlValue
result_value_in plan outcome None c = None
result_value_in plan outcome (Some k) c = result_value (members plan k) (outcome k) c

-- The value of a control afterwards: the one that the row of its cluster gives it; where the cluster is refused, its own.
abbrev pub value_after : Verdicts → PlanData → List Control → Values → Grabs → List Pair → ℕ → CtrlValue
value_after verdicts plan controls values grabs pairs c =
    unwrap_or (result_value_in plan (row_after verdicts plan controls values grabs pairs) (cluster_of plan c) c) (value_at values c)

-- Pairs laid over values, under these ranges and grabs: the values afterwards, control by control.
unfoldable pub overlay : Verdicts → PlanData → List Control → Values → Grabs → List Pair → Values
overlay verdicts plan controls values grabs pairs = map (value_after verdicts plan controls values grabs pairs) (range_with_len 0 (length values))

-- The clusters that are refused then, in rising order.
unfoldable pub refused_clusters : Verdicts → PlanData → List Control → Values → Grabs → List Pair → List ℕ
refused_clusters verdicts plan controls values grabs pairs = filter (λ k. is_err (row_after verdicts plan controls values grabs pairs k)) (range_with_len 0 (length plan.clusters))

-- no control is grabbed
abbrev pub no_grabs : Grabs
no_grabs = []
