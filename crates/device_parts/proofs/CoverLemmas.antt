-- In which clusters a step changes something.
use Rattle.std.proofs.Common.{◌≡◌, ◌≢◌, ◌∙◌, ◌<◌, ◌≤◌, ◌⊎◌, ℕ, Bool, true, false, nat_eq, List, [], ◌∷◌, length, get_or, slice_set, Option, None, Some, unwrap_or, inl, inr, refl, sym, ap, subst, arith}
use Rattle.std.proofs.Math.Dec.{leb}
use Rattle.std.proofs.lemmas.Bool.Decides.{leb_tells, nat_tests}
use Rattle.std.proofs.lemmas.List.{get_or-set_other, get_or_past}
use Rattle.ctrl_calls.specs.Meanings.{Verdicts}
use Rattle.ctrl_types.specs.Values.{zero_value}
use Rattle.ctrl_types.specs.declared.ids.Pair.{Pair}
use Rattle.ctrl_handlers.specs.Plan.{PlanData, cluster_of, members}
use Rattle.ctrl_handlers.proofs.ClusterLemmas.{cluster_of_within}
use Rattle.ctrl_clusters.specs.ControlsData.{ControlsData, DifferIn, is_in_one_of}
use Rattle.ctrl_clusters.specs.Overlay.{is_touched, result_value_in, row_after}
use Rattle.ctrl_clusters.specs.Rows.{value_at}
use Rattle.ctrl_clusters.proofs.OverlayLemmas.{length_overlay, or_true, overlay_at, value_own}
use Rattle.ctrl_forecast.specs.Applied.{applied_pairs}
use Rattle.ctrl_forecast.specs.Boards.{named_clusters}
use Rattle.ctrl_forecast.proofs.ApartLemmas.{applied_apart, not_named}
use Rattle.ctrl_forecast.proofs.ReadyLemmas.{named_within}
use Rattle.ctrl_raises.specs.Within.{DifferWithin}
use Rattle.device_history.specs.Laid.{laid}
use Rattle.device_parts.specs.Makes.{Cover}

-- where nothing differs outside of clusters, nothing does between what is equal to it
pub within_same : (plan plan' : PlanData) (clusters clusters' : List ℕ) (before before' after after' : ControlsData) (pairs pairs' : List Pair) → plan ≡ plan' → clusters ≡ clusters' → before ≡ before' → after ≡ after' → pairs ≡ pairs'
    → DifferWithin plan' clusters' before' after' pairs' → DifferWithin plan clusters before after pairs
within_same plan plan' clusters clusters' before before' after after' pairs pairs' p k b a ps is = rw (p, k, b, a, ps) is

-- a control of another cluster is another control
apart_other : (plan : PlanData) (c k d : ℕ) → cluster_of plan c ≡ Some k → is_in_one_of (k ∷ []) (cluster_of plan d) ≡ false → d ≢ c
apart_other plan c k d is apart same = clash (subst (λ (o : Option ℕ). is_in_one_of (k ∷ []) o ≡ false) (ap (cluster_of plan) same ∙ is) apart)
  where
    own : nat_eq k k ≡ true
    own = grind (arith, nat_tests)

    differ : true ≡ false → ⊥
    differ h = cc

    clash : is_in_one_of (k ∷ []) (Some k) ≡ false → ⊥
    clash h = differ (sym (or_true (nat_eq k k) false own) ∙ h)

-- where one control gets something else, each of another cluster has what it had
pub set_apart : {X : Type 0} (plan : PlanData) (xs : List X) (none : X) (c k : ℕ) (x : X) (d : ℕ) → cluster_of plan c ≡ Some k → is_in_one_of (k ∷ []) (cluster_of plan d) ≡ false → get_or xs d none ≡ get_or (slice_set xs c x) d none
set_apart plan xs none c k x d is apart = sym (get_or-set_other xs c d x none (apart_other plan c k d is apart))

-- no pairs touch anything
none_asked : (cs : List ℕ) → is_touched [] cs ≡ false
none_asked [] = refl
none_asked (c ∷ cs) = none_asked cs

-- A grab changes the cluster of its control.
pub grab_within : (plan : PlanData) (controls : ControlsData) (c k : ℕ) (on : Bool) → cluster_of plan c ≡ Some k
    → DifferWithin plan (k ∷ []) controls (record controls { grabs = slice_set controls.grabs c on }) []
grab_within plan controls c k on is = record {
  ranges_stay = λ d outside. refl;
  values_stay = λ d outside. refl;
  grabs_stay = λ d outside. set_apart plan controls.grabs false c k on d is outside;
  unasked = λ j lt outside. none_asked (members plan j);
}

-- pairs that are laid change values in clusters that cover them
pub laid_apart : (verdicts : Verdicts) (plan : PlanData) (controls : ControlsData) (clusters : List ℕ) (pairs : List Pair) → Cover plan clusters pairs → DifferIn plan clusters controls.values (laid verdicts plan controls pairs)
laid_apart verdicts plan controls clusters pairs cover c outside = by (leb_tells (length controls.values) c)
  where
    own : (o : Option ℕ) → cluster_of plan c ≡ o → is_in_one_of clusters o ≡ false
        → unwrap_or (result_value_in plan (row_after verdicts plan controls.ranges controls.values controls.grabs pairs) o c) (value_at controls.values c) ≡ value_at controls.values c
    own None is apart = refl
    own (Some k) is apart =
        let free : is_touched pairs (members plan k) ≡ false = cover.others k (cluster_of_within plan c k is) apart in
        rw free (value_own controls.values (members plan k) c)

    by : ((leb (length controls.values) c ≡ true) × (length controls.values ≤ c)) ⊎ ((leb (length controls.values) c ≡ false) × (c < length controls.values)) → value_at controls.values c ≡ value_at (laid verdicts plan controls pairs) c
    by (inl past) =
        get_or_past controls.values c zero_value past.1
        ∙ sym (get_or_past (laid verdicts plan controls pairs) c zero_value (omega (arith, past.1, length_overlay verdicts plan controls.ranges controls.values controls.grabs pairs)))
    by (inr within) = sym (overlay_at verdicts plan controls.ranges controls.values controls.grabs pairs c within.1 ∙ own (cluster_of plan c) refl outside)

-- A set changes what its pairs name.
pub set_within : (verdicts : Verdicts) (plan : PlanData) (controls : ControlsData) (clusters : List ℕ) (pairs : List Pair) → Cover plan clusters pairs
    → DifferWithin plan clusters controls (record controls { values = laid verdicts plan controls pairs }) pairs
set_within verdicts plan controls clusters pairs cover = record {
  ranges_stay = λ c outside. refl;
  values_stay = laid_apart verdicts plan controls clusters pairs cover;
  grabs_stay = λ c outside. refl;
  unasked = cover.others;
}

-- The begin of a frame changes what its request asks for.
pub begin_within : (verdicts : Verdicts) (plan : PlanData) (controls : ControlsData) (clusters refused : List ℕ) (pairs : List Pair) → Cover plan clusters pairs
    → DifferWithin plan clusters controls (record controls { values = laid verdicts plan controls pairs }) (applied_pairs plan (laid verdicts plan controls pairs) refused pairs)
begin_within verdicts plan controls clusters refused pairs cover = record {
  ranges_stay = λ c outside. refl;
  values_stay = laid_apart verdicts plan controls clusters pairs cover;
  grabs_stay = λ c outside. refl;
  unasked = λ k lt outside. applied_apart plan (laid verdicts plan controls pairs) refused pairs (members plan k) (cover.others k lt outside);
}

-- the clusters that pairs name cover them
pub named_cover : (plan : PlanData) (pairs : List Pair) → Cover plan (named_clusters plan pairs) pairs
named_cover plan pairs = record { known = named_within plan pairs; others = not_named plan pairs }
