-- What sparse frames are renewed under, and what holds of them then (of this project).
use Rattle.std.specs.Prelude.{◌≡◌, ◌<◌, ◌≤◌, ℕ, suc, true, Bool, false, List, length}
use Rattle.std.specs.List.{All}
use Rattle.ctrl_calls.specs.Meanings.{Verdicts}
use Rattle.ctrl_settle.specs.Control.{Control}
use Rattle.ctrl_settle.specs.Faults.{IsWellFormed}
use Rattle.ctrl_handlers.specs.Plan.{PlanData, IsFinished, cluster_of, control_in, names_twice}
use Rattle.ctrl_clusters.specs.Following.{AgreeOutside, IsClosed, followed, inside_of, under_values}
use Rattle.ctrl_clusters.specs.Rows.{AreControlsOf, Grabs, Values, value_at}
use Rattle.frame_forecast.specs.Kept.{IsKeptSparse, IsPaired}
use Rattle.frame_forecast.specs.Sparse.{HasLinks, IsNaming, IsRightOver, SparseFrame, linked, queued_sparse, sparse_at, values_upto}

-- What frames are renewed under: some clusters that hold what a change reaches, ranges, values and grabs before and after, and frames from a place on that were right over the values before.
pub record IsRenewable (verdicts : Verdicts) (plan : PlanData) (ks : List ℕ) (first second : List Control) (grabs held : Grabs) (values : Values) (earlier : ℕ → Values) (old : List SparseFrame) (from : ℕ) : Type 0 where
  pub finished : IsFinished plan
  pub closed : IsClosed plan (inside_of plan ks)
  pub known : All (λ k. k < length plan.clusters) ks
  pub once : names_twice ks ≡ false
  pub are : AreControlsOf plan first
  pub also : AreControlsOf plan second
  pub well : (c : ℕ) → c < length second → IsWellFormed (control_in second c)
  pub long : length values ≡ length plan.controls
  pub earlier_long : (i : ℕ) → length (earlier i) ≡ length plan.controls
  pub earlier_right : (i : ℕ) → from ≤ i → i < length old → IsRightOver verdicts plan first grabs (earlier i) (sparse_at old i)
  pub earlier_next : (i : ℕ) → from ≤ i → i < length old → earlier (suc i) ≡ linked (sparse_at old i) (earlier i)

-- Frames from a place on are renewed below another: they are right, all behind are as they were, and stand over values that agree out of reach.
pub record AreRenewedTo (verdicts : Verdicts) (plan : PlanData) (ks : List ℕ) (first second : List Control) (grabs held : Grabs) (values : Values) (earlier : ℕ → Values) (old new : List SparseFrame) (from place : ℕ) : Type 0 where
  pub many : length new ≡ length old
  pub early : (i : ℕ) → i < from → sparse_at new i ≡ sparse_at old i
  pub right : (i : ℕ) → from ≤ i → i < place → IsRightOver verdicts plan second held (values_upto values new i) (sparse_at new i)
  pub behind : (i : ℕ) → place ≤ i → sparse_at new i ≡ sparse_at old i
  pub agree : AgreeOutside plan (inside_of plan ks) (under_values plan first grabs (earlier place)) (under_values plan second held (values_upto values new place))
  pub settled : followed plan (under_values plan second held (values_upto values new place)) ≡ under_values plan second held (values_upto values new place)
  pub kept : (i : ℕ) → i < length new → IsKeptSparse plan (sparse_at new i)
  pub queued : (i : ℕ) → queued_sparse (sparse_at new i) ≡ queued_sparse (sparse_at old i)

-- Frames from a place on that are renewed below another, from what they were before: some ranges, grabs and values, under which they were right.
unfoldable pub AreRenewing : Verdicts → PlanData → List ℕ → List Control → Grabs → Values → List SparseFrame → List SparseFrame → ℕ → ℕ → Type 0
AreRenewing verdicts plan ks second held values old new from place =
    (first : List Control) × (grabs : Grabs) × (earlier : ℕ → Values) × IsRenewable verdicts plan ks first second grabs held values earlier old from × AreRenewedTo verdicts plan ks first second grabs held values earlier old new from place

-- what they are once all are
pub record AreRenewed (verdicts : Verdicts) (plan : PlanData) (second : List Control) (held : Grabs) (values : Values) (old new : List SparseFrame) (from : ℕ) : Type 0 where
  pub many : length new ≡ length old
  pub early : (i : ℕ) → i < from → sparse_at new i ≡ sparse_at old i
  pub right : (i : ℕ) → from ≤ i → i < length new → IsRightOver verdicts plan second held (values_upto values new i) (sparse_at new i)
  pub kept : (i : ℕ) → i < length new → IsKeptSparse plan (sparse_at new i)
  pub queued : (i : ℕ) → queued_sparse (sparse_at new i) ≡ queued_sparse (sparse_at old i)

-- The same, where the ranges give what those of before gave, grabs are as before, and a list has the values of before in the clusters: as they were before the frame at a place.
unfoldable pub AreRenewingSame : Verdicts → PlanData → List ℕ → List Control → Grabs → Values → List SparseFrame → List SparseFrame → ℕ → ℕ → Values → Type 0
AreRenewingSame verdicts plan ks controls grabs values old new from place spare =
    (earlier : ℕ → Values) × IsRenewable verdicts plan ks controls controls grabs grabs values earlier old from × AreRenewedTo verdicts plan ks controls controls grabs grabs values earlier old new from place
    × ((c : ℕ) → inside_of plan ks c ≡ true → c < length plan.controls → value_at spare c ≡ value_at (earlier place) c)

-- A frame was taken out from a place: over what it left those from the place on were right, so that what it could change is to be renewed in them.
abbrev pub AreRenewingBehind : Verdicts → PlanData → SparseFrame → List Control → Grabs → Values → List SparseFrame → ℕ → Type 0
AreRenewingBehind verdicts plan removed controls grabs values frames place =
    (earlier : ℕ → Values) × IsRenewable verdicts plan removed.reached controls controls grabs grabs values earlier frames place × AreRenewedTo verdicts plan removed.reached controls controls grabs grabs values earlier frames frames place place
    × (earlier place ≡ linked removed (values_upto values frames place))
