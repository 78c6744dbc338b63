-- Nothing differs outside of all clusters.
use Rattle.std.proofs.Common.{◌≡◌, ◌∙◌, ◌<◌, ◌≤◌, ◌⊎◌, ◌≢◌, ℕ, zero, suc, true, false, nat_eq, List, [], ◌∷◌, length, Option, None, Some, is_some, inl, inr, refl, sym, ap, subst, slice_set, arith}
use Rattle.std.specs.List.{list_any}
use Rattle.ctrl_clusters.proofs.OverlayLemmas.{or_true}
use Rattle.std.proofs.Math.Dec.{leb}
use Rattle.std.proofs.lemmas.Bool.{false≢true}
use Rattle.std.proofs.lemmas.Bool.Decides.{leb_tells, nat_tests}
use Rattle.std.proofs.lemmas.List.{get_or-set_other, get_or_past}
use Rattle.ctrl_types.specs.Values.{zero_value}
use Rattle.ctrl_types.specs.declared.value.CtrlValue.{CtrlValue}
use Rattle.ctrl_types.specs.declared.ids.Pair.{Pair}
use Rattle.ctrl_handlers.specs.Plan.{PlanData, IsFinished, cluster_of, no_control}
use Rattle.ctrl_handlers.proofs.ClusterLemmas.{cluster_of_within}
use Rattle.ctrl_clusters.specs.ControlsData.{ControlsData, is_in_one_of}
use Rattle.ctrl_clusters.specs.Rows.{Values, value_at}
use Rattle.ctrl_raises.specs.Within.{DifferWithin}

-- as many ranges, values and grabs as a plan has controls
pub record AreAsMany (plan : PlanData) (controls : ControlsData) : Type 0 where
  pub ranges : length controls.ranges ≡ length plan.controls
  pub values : length controls.values ≡ length plan.controls
  pub grabs : length controls.grabs ≡ length plan.controls

-- the numbers below four are among these
pub four_there : (k : ℕ) → k < 4 → list_any (nat_eq k) (3 ∷ 0 ∷ 2 ∷ 1 ∷ []) ≡ true
four_there zero lt = refl
four_there (suc zero) lt = refl
four_there (suc (suc zero)) lt = refl
four_there (suc (suc (suc zero))) lt = refl
four_there (suc (suc (suc (suc k)))) lt = absurd (omega (arith, lt))

-- a control outside of all clusters isn't one of the plan
outside_past : (plan : PlanData) (clusters : List ℕ) (c : ℕ) → IsFinished plan → ((k : ℕ) → k < length plan.clusters → list_any (nat_eq k) clusters ≡ true)
    → is_in_one_of clusters (cluster_of plan c) ≡ false → length plan.controls ≤ c
outside_past plan clusters c is all outside = by (leb_tells (length plan.controls) c)
  where
    in_all : (o : Option ℕ) → cluster_of plan c ≡ o → is_some o ≡ true → is_in_one_of clusters o ≡ true
    in_all None own there = absurd (false≢true there)
    in_all (Some k) own there = all k (cluster_of_within plan c k own)

    by : ((leb (length plan.controls) c ≡ true) × (length plan.controls ≤ c)) ⊎ ((leb (length plan.controls) c ≡ false) × (c < length plan.controls)) → length plan.controls ≤ c
    by (inl past) = past.1
    by (inr within) = absurd (false≢true (sym outside ∙ in_all (cluster_of plan c) refl (is.clustered c within.1)))

-- where all clusters are handed in, nothing differs outside of them
pub all_within : (plan : PlanData) (clusters : List ℕ) (before after : ControlsData) (pairs : List Pair) → IsFinished plan → ((k : ℕ) → k < length plan.clusters → list_any (nat_eq k) clusters ≡ true)
    → AreAsMany plan before → AreAsMany plan after → DifferWithin plan clusters before after pairs
all_within plan clusters before after pairs is all old new = record {
  ranges_stay = λ c outside.
      let past : length plan.controls ≤ c = outside_past plan clusters c is all outside in
      get_or_past before.ranges c no_control (omega (arith, past, old.ranges)) ∙ sym (get_or_past after.ranges c no_control (omega (arith, past, new.ranges)));
  values_stay = λ c outside.
      let past : length plan.controls ≤ c = outside_past plan clusters c is all outside in
      get_or_past before.values c zero_value (omega (arith, past, old.values)) ∙ sym (get_or_past after.values c zero_value (omega (arith, past, new.values)));
  grabs_stay = λ c outside.
      let past : length plan.controls ≤ c = outside_past plan clusters c is all outside in
      get_or_past before.grabs c false (omega (arith, past, old.grabs)) ∙ sym (get_or_past after.grabs c false (omega (arith, past, new.grabs)));
  unasked = λ k lt outside. absurd (false≢true (sym outside ∙ all k lt));
}

-- a control of another cluster is another control
apart_other : (plan : PlanData) (c k d : ℕ) → cluster_of plan c ≡ Some k → is_in_one_of (k ∷ []) (cluster_of plan d) ≡ false → d ≢ c
apart_other plan c k d is apart same = clash (subst (λ (o : Option ℕ). is_in_one_of (k ∷ []) o ≡ false) (ap (cluster_of plan) same ∙ is) apart)
  where
    own : nat_eq k k ≡ true
    own = grind (arith, nat_tests)

    differ : true ≡ false → ⊥
    differ h = cc

    clash : is_in_one_of (k ∷ []) (Some k) ≡ false → ⊥
    clash h = differ (sym (or_true (nat_eq k k) false own) ∙ h)

-- where one control gets another value, each of another cluster has what it had
pub set_apart : (plan : PlanData) (values : Values) (c k : ℕ) (v : CtrlValue) (d : ℕ) → cluster_of plan c ≡ Some k → is_in_one_of (k ∷ []) (cluster_of plan d) ≡ false → value_at values d ≡ value_at (slice_set values c v) d
set_apart plan values c k v d is apart = sym (get_or-set_other values c d v zero_value (apart_other plan c k d is apart))
