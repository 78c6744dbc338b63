-- The clusters that a list touches, and the rows that they get (Linux driver API, "V4L2 Controls", "Control Clusters").
use Rattle.std.specs.Prelude.{◌≡◌, ℕ, Bool, nat_eq, ◌<◌, length, if◌then◌else◌, List, [], ◌∷◌, ◌++◌, Option, None, Some, is_some, count_by, Ok}
use Rattle.std.specs.List.{All, list_any, fold}
use Rattle.ctrl_types.specs.declared.ids.ExtControl.{ExtControl}
use Rattle.ctrl_types.specs.declared.ids.Pair.{Pair}
use Rattle.ctrl_calls.specs.Meanings.{Verdicts}
use Rattle.ctrl_settle.specs.Control.{Control}
use Rattle.ctrl_handlers.specs.Plan.{PlanData, control, cluster_of, calls_of, members}
use Rattle.ctrl_clusters.specs.Rows.{Values}
use Rattle.ctrl_clusters.specs.Judging.{validated_row}
pub use Rattle.ctrl_clusters.specs.Judging.{with_calls}
use Rattle.ctrl_clusters.specs.NewRows.{clusters_of, value_written}
use Rattle.ctrl_clusters.specs.declared.new_row.NewRow.{NewRow}
use Rattle.ctrl_lists.specs.View.{ViewData, pairs_of}
use Rattle.ctrl_types.specs.declared.refusal.Refusal.{Refusal}
use Rattle.ctrl_lists.specs.Checks.{entry_checks, first_refusal, pairs_judged}

-- these clusters, with one more where it isn't among them
abbrev pub with_cluster : List ℕ → Option ℕ → List ℕ
with_cluster clusters None = clusters
with_cluster clusters (Some k) = if list_any (nat_eq k) clusters then clusters else clusters ++ k ∷ []

-- The clusters that pairs touch, each once, in the order of their first pairs.
abbrev pub touched : PlanData → List Pair → List ℕ
touched plan pairs = fold (λ clusters p. with_cluster clusters (cluster_of plan p.control)) [] pairs

-- How an entry is read off rows that are kept: its control, with the value that they give it, or the one from before where they give
-- none. Where the rows are those that a list's clusters become, this is what the entry is answered.
abbrev pub entry_in : PlanData → Values → List NewRow → ℕ → ExtControl
entry_in plan values rows c = record { id = (control plan c).id; value = value_written plan values rows c }

-- each row is the validated row of its cluster
abbrev pub AreRows : Verdicts → PlanData → List Control → Values → List Pair → List NewRow → Type 0
AreRows verdicts plan controls values pairs rows = All (λ r. validated_row verdicts plan controls values pairs r.cluster ≡ Ok r.row) rows

-- What a list makes of the clusters that it touches: their rows, in the order of the clusters' first entries; what the entries are
-- answered; and the pairs of the list.
pub record TouchedData : Type 0 where
  pub rows : List NewRow
  pub answers : List ExtControl
  pub pairs : List Pair

-- Each cluster that pairs touch has, once, its validated row where the pairs `laid` are laid over the values. So the clusters are there, and
-- each row has a value for each member.
pub record AreJudged (verdicts : Verdicts) (plan : PlanData) (controls : List Control) (values : Values) (laid pairs : List Pair) (rows : List NewRow) : Type 0 where
  pub each_once : clusters_of rows ≡ touched plan pairs
  pub become : AreRows verdicts plan controls values laid rows
  pub within : All (λ r. r.cluster < length plan.clusters) rows
  pub long : All (λ r. length r.row ≡ length (members plan r.cluster)) rows

-- It is what the list asks for: the pairs are the list's, of controls that are there, and the rows those of the clusters that they touch.
pub record IsTouched (verdicts : Verdicts) (plan : PlanData) (view : ViewData) (list : List ExtControl) (touch : TouchedData) : Type 0 where
  pub own_pairs : touch.pairs ≡ pairs_of plan view.handler view.which list
  pub known : All (λ p. p.control < length plan.controls) touch.pairs
  pub judged : AreJudged verdicts plan view.ranges view.values (pairs_judged plan view list) (pairs_of plan view.handler view.which list) touch.rows

-- how many of some clusters have a validator
abbrev pub judged_count : PlanData → List ℕ → ℕ
judged_count plan clusters = count_by (λ k. is_some (calls_of plan k).validator) clusters

-- so many at most, and none where something refuses first
abbrev pub none_where : Option Refusal → ℕ → ℕ
none_where None most = most
none_where (Some refusal) most = 0

-- How many validators a list that writes asks at most: one for each cluster that it touches, and none where one of the checks before that
-- refuses it.
abbrev pub list_asks : PlanData → ViewData → Bool → List ExtControl → ℕ
list_asks plan view is_set list =
    none_where (first_refusal (entry_checks plan view is_set list)) (length (touched plan (pairs_of plan view.handler view.which list)))
