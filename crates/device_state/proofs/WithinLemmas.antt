-- In which clusters a set, the begin of a frame, and a grab change something.
use Rattle.std.proofs.Common.{◌≡◌, ◌∙◌, ◌<◌, ◌≤◌, ◌⊎◌, ℕ, true, false, nat_eq, List, [], ◌∷◌, length, slice_get, Some, inl, inr, map, sym, ap, subst}
use Rattle.std.specs.List.{list_any}
use Rattle.std.proofs.Math.Dec.{leb}
use Rattle.std.proofs.lemmas.Bool.Decides.{leb_tells}
use Rattle.std.proofs.lemmas.List.{get_or_past}
use Rattle.ctrl_types.specs.declared.ids.Pair.{Pair}
use Rattle.ctrl_calls.specs.Meanings.{Verdicts}
use Rattle.ctrl_handlers.specs.ClusterData.{ClusterData}
use Rattle.ctrl_handlers.specs.Plan.{PlanData, IsPlan, members, no_cluster}
use Rattle.ctrl_clusters.specs.Changes.{members_change, row_changes}
use Rattle.ctrl_clusters.specs.ControlsData.{ControlsData, is_in_one_of}
use Rattle.ctrl_clusters.specs.Rows.{row_of, value_at}
use Rattle.ctrl_clusters.proofs.OverlayLemmas.{same_each}
use Rattle.ctrl_forecast.specs.Boards.{named_clusters}
use Rattle.ctrl_forecast.specs.Forecasts.{QueuedData}
use Rattle.ctrl_raises.specs.Within.{DifferWithin}
use Rattle.device_history.specs.Forecasts.{queued_frame, queued_frames}
use Rattle.device_history.specs.Frames.{first_of, queue}
use Rattle.device_history.specs.Requests.{asked}
use Rattle.device_history.specs.Snapshots.{begun_pairs, begun_refused, begun_values}
use Rattle.device_history.specs.Steps.{Past}
use Rattle.device_state.proofs.SetLemmas.{changes_same}
use Rattle.device_history.specs.Controls.{controls_now}
use Rattle.device_parts.proofs.CoverLemmas.{begin_within, named_cover}

-- What the begin of a frame changes lies in the clusters that it names.
pub begun_within : (verdicts : Verdicts) (plan : PlanData) (older : Past) (r : ℕ) (controls : ControlsData) → controls ≡ controls_now verdicts plan older
    → DifferWithin plan (named_clusters plan (asked plan older r)) controls (record controls { values = begun_values verdicts plan older r }) (begun_pairs verdicts plan older r)
begun_within verdicts plan older r controls same =
    subst (λ (m : ControlsData). DifferWithin plan (named_clusters plan (asked plan older r)) m (record m { values = begun_values verdicts plan older r }) (begun_pairs verdicts plan older r)) (sym same)
    (begin_within verdicts plan (controls_now verdicts plan older) (named_clusters plan (asked plan older r)) (begun_refused verdicts plan older r) (asked plan older r) (named_cover plan (asked plan older r)))

-- Where nothing differs outside of some clusters, no member of another one is changed.
pub unmoved : (plan : PlanData) (clusters : List ℕ) (before after : ControlsData) (pairs : List Pair) (k : ℕ) → IsPlan plan → DifferWithin plan clusters before after pairs → list_any (nat_eq k) clusters ≡ false
    → members_change plan before.values after.values pairs k ≡ false
unmoved plan clusters before after pairs k is within outside = by (leb_tells (length plan.clusters) k)
  where
    by : ((leb (length plan.clusters) k ≡ true) × (length plan.clusters ≤ k)) ⊎ ((leb (length plan.clusters) k ≡ false) × (k < length plan.clusters)) → members_change plan before.values after.values pairs k ≡ false
    by (inl past) = ap (λ (cs : List ℕ). row_changes plan before.values pairs cs (row_of after.values cs)) (ap (λ (d : ClusterData). d.members) (get_or_past plan.clusters k no_cluster past.1))
    by (inr there) =
        ap (row_changes plan before.values pairs (members plan k))
        (sym (same_each (value_at before.values) (value_at after.values) (members plan k) (λ c among. within.values_stay c (ap (is_in_one_of clusters) (is.members_apart k c there.1 among) ∙ outside))))
        ∙ changes_same plan before.values pairs (members plan k) (within.unasked k there.1 outside)

-- the clusters that the first of the queued frames names
pub first_named : (plan : PlanData) (older : Past) (r : ℕ) (ks : List ℕ) → first_of (queue older) ≡ Some r → Some ks ≡ slice_get (map (λ (q : QueuedData). named_clusters plan q.asked) (queued_frames plan older)) 0
    → ks ≡ named_clusters plan (asked plan older r)
first_named plan older r ks first is = by (queue older) first is
  where
    same : (a b : ℕ) → Some a ≡ Some b → a ≡ b
    same a b h = cc

    own : (a b : List ℕ) → Some a ≡ Some b → a ≡ b
    own a b h = cc

    by : (ids : List ℕ) → first_of ids ≡ Some r → Some ks ≡ slice_get (map (λ (q : QueuedData). named_clusters plan q.asked) (map (queued_frame plan older) ids)) 0 → ks ≡ named_clusters plan (asked plan older r)
    by [] f h = cc
    by (i ∷ rest) f h = own ks (named_clusters plan (asked plan older i)) h ∙ ap (λ (j : ℕ). named_clusters plan (asked plan older j)) (same i r f)
