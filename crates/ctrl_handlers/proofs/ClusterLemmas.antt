-- The clusters of a plan: a control is in one at most.
use Rattle.std.proofs.Common.{◌≡◌, ℕ, ℤ, suc, eq-eqb, ◌+◌, ◌<◌, ◌≤◌, ◌&&◌, ◌||◌, Bool, true, false, not, cond, if◌then◌else◌, ltb, nat_eq, nat_lt, List, [], ◌∷◌, ◌++◌, length, map, Option, None, Some, is_some, position, slice_index, refl, sym, ap, subst, ◌∙◌, arith, get_or, inl, inr, ◌⊎◌}
use Rattle.std.specs.List.{All, list_any, list_all, position_or_len, IsDistinct}
use Rattle.std.proofs.lemmas.Bool.{cases_lt, eqb-true}
use Rattle.std.proofs.lemmas.List.{length-map, get_or-map, get_or_append_left, get_or_at, get_or_past, length_push, get_or_default}
use Rattle.std.proofs.lemmas.List.Elements.{All-nil}
use Rattle.std.proofs.lemmas.List.Folds.{list_any_at, list_all_at, list_any_none}
use Rattle.std.proofs.lemmas.List.Sums.{position_or_len_is}
use Rattle.std.proofs.lemmas.List.Quantifiers.{position-Some}
use Rattle.std.proofs.lemmas.Bool.Decides.{nat_tests}
use Rattle.std.proofs.lemmas.Map.Steps.{length-le_from_distinct_below}
use Rattle.std.proofs.lemmas.Map.Keys.{IsDistinct-from_apart}
use Rattle.ctrl_calls.specs.declared.relation.Relations.{Relations}
use Rattle.ctrl_settle.specs.Control.{is_array}
use Rattle.ctrl_handlers.specs.ClusterData.{ClusterData}
use Rattle.ctrl_handlers.specs.declared.limits.TheConstants.{MAX_CONTROLS}
use Rattle.ctrl_handlers.specs.declared.fault.PlanFault.{PlanFault}
use Rattle.ctrl_handlers.specs.declared.fault.PlanFault.TheVariants.{ArrayAlone, InCluster, ClusterSize, UnknownNumber}
use Rattle.ctrl_calls.specs.declared.row.TheConstants.{MAX_MEMBERS}
use Rattle.ctrl_handlers.specs.Plan.{PlanData, IsPlan, with_cluster, names_twice, crowds_array, control, has_member, cluster_of, cluster_at, members, master_of, no_cluster, leads}
use Rattle.ctrl_handlers.specs.Builder.{cluster_refusal, some_clustered, misfits}

-- one more in front of a search
step : (b : Bool) (n m : ℕ) (r : Bool) → ltb n m ≡ r → ltb (cond (not b) (1 + n) 0) (suc m) ≡ (b || r)
step true n m r h = grind (arith, nat_tests)
step false n m r h = grind (arith, nat_tests)

pub any_first : {X : Type 0} (p : X → Bool) (xs : List X) → ltb (position_or_len p xs) (length xs) ≡ list_any p xs
any_first p [] = refl
any_first p (x ∷ xs) = step (p x) (position_or_len p xs) (length xs) (list_any p xs) (any_first p xs)

found_by : (b : Bool) (n : ℕ) → is_some (cond b (Some n) None) ≡ b
found_by true n = refl
found_by false n = refl

-- some item passes exactly where one passes first
pub any_found : {X : Type 0} (p : X → Bool) (xs : List X) → is_some (position p xs) ≡ list_any p xs
any_found p xs = found_by (ltb (position_or_len p xs) (length xs)) (position_or_len p xs) ∙ any_first p xs

-- where no item passes first, none passes
pub any-None : {X : Type 0} (p : X → Bool) (xs : List X) → is_some (position p xs) ≡ false → list_any p xs ≡ false
any-None p xs h = sym (any_found p xs) ∙ h

-- where none passes, the one at a place doesn't
pub fails_at : {X : Type 0} (p : X → Bool) (xs : List X) (i : ℕ) (d : X) → list_any p xs ≡ false → i < length xs → p (get_or xs i d) ≡ false
fails_at p xs i d none within = by (p (get_or xs i d)) refl
  where
    by : (b : Bool) → p (get_or xs i d) ≡ b → b ≡ false
    by true e = let any : list_any p xs ≡ true = list_any_at p xs i d within e in cc
    by false e = refl

-- the first place that passes
pub first_place : {X : Type 0} (p : X → Bool) (xs : List X) (k : ℕ) (d : X) → k < length xs → ((i : ℕ) → i < k → p (get_or xs i d) ≡ false) → p (get_or xs k d) ≡ true → position p xs ≡ Some k
first_place p xs k d within before at =
    let place : position_or_len p xs ≡ k = position_or_len_is p xs k d (omega (arith, within)) before (λ _. at) in
    let inside : ltb k (length xs) ≡ true = grind (arith, nat_tests) in
    rw (place, inside) refl

-- where none of some controls passes, one of them doesn't
pub none_of : (f : ℕ → Bool) (c : ℕ) (cs : List ℕ) → list_any f cs ≡ false → list_any (nat_eq c) cs ≡ true → f c ≡ false
none_of f c [] none among = cc
none_of f c (x ∷ xs) none among = by (f x) (nat_eq c x) refl refl none among (λ n a. none_of f c xs n a)
  where
    by : (b t : Bool) → f x ≡ b → nat_eq c x ≡ t → (b || list_any f xs) ≡ false → (t || list_any (nat_eq c) xs) ≡ true
        → (list_any f xs ≡ false → list_any (nat_eq c) xs ≡ true → f c ≡ false) → f c ≡ false
    by true t e g none among ih = cc
    by false true e g none among ih = let same : c ≡ x = grind (arith, nat_tests, g) in rw same e
    by false false e g none among ih = ih none among

-- all of some controls pass where the test of them all does
pub all_of : (n : ℕ) (cs : List ℕ) → list_all (λ c. nat_lt c n) cs ≡ true → All (λ c. c < n) cs
all_of n cs all = λ k d within. grind (arith, nat_tests, list_all_at (λ c. nat_lt c n) cs k d within, all)

-- the cluster of a control is there
pub cluster_of_within : (plan : PlanData) (c k : ℕ) → cluster_of plan c ≡ Some k → k < length plan.clusters
cluster_of_within plan c k is = (position-Some (has_member c) plan.clusters k no_cluster is).0

-- and has it as a member
pub cluster_of_member : (plan : PlanData) (c k : ℕ) → cluster_of plan c ≡ Some k → list_any (nat_eq c) (members plan k) ≡ true
cluster_of_member plan c k is = (position-Some (has_member c) plan.clusters k no_cluster is).1

-- the first of one or more is among them
pub first_among : (cs : List ℕ) → 0 < length cs → list_any (nat_eq (slice_index cs 0)) cs ≡ true
first_among [] some = absurd (omega (arith, some))
first_among (c ∷ cs) some = rw (eq-eqb c c refl) refl

-- the master of a cluster is in it
pub master_in : (plan : PlanData) (k : ℕ) → IsPlan plan → k < length plan.clusters → cluster_of plan (master_of (cluster_at plan k)) ≡ Some k
master_in plan k is within =
    is.members_apart k (master_of (cluster_at plan k)) within (first_among (members plan k) (is.some_members k within))

-- a cluster that a control is the master of is its own
led_own : (plan : PlanData) (c k j : ℕ) → IsPlan plan → cluster_of plan c ≡ Some k → j < length plan.clusters → leads c (cluster_at plan j) ≡ true → j ≡ k
led_own plan c k j is own within it_leads =
    let same : master_of (cluster_at plan j) ≡ c = grind (arith, nat_tests, it_leads) in
    let there : Some j ≡ Some k = sym (master_in plan j is within) ∙ ap (cluster_of plan) same ∙ own in
    cc

-- whether a control is the master of an auto cluster is seen at its own
pub leads_own : (plan : PlanData) (c k : ℕ) → IsPlan plan → cluster_of plan c ≡ Some k → list_any (leads c) plan.clusters ≡ leads c (cluster_at plan k)
leads_own plan c k is own = by (leads c (cluster_at plan k)) refl
  where
    within : k < length plan.clusters
    within = cluster_of_within plan c k own

    fails : (j : ℕ) (d : ClusterData) → j < length plan.clusters → leads c (cluster_at plan k) ≡ false → (t : Bool) → leads c (get_or plan.clusters j d) ≡ t → t ≡ false
    fails j d at none false e = refl
    fails j d at none true e =
        let read : leads c (cluster_at plan j) ≡ true = ap (leads c) (get_or_default plan.clusters j no_cluster d at) ∙ e in
        let same : j ≡ k = led_own plan c k j is own at read in
        let other : leads c (cluster_at plan k) ≡ true = ap (λ i. leads c (cluster_at plan i)) (sym same) ∙ read in
        cc

    by : (b : Bool) → leads c (cluster_at plan k) ≡ b → list_any (leads c) plan.clusters ≡ leads c (cluster_at plan k)
    by true e = list_any_at (leads c) plan.clusters k no_cluster within e ∙ sym e
    by false e = list_any_none (leads c) plan.clusters (λ j d at. fails j d at e (leads c (get_or plan.clusters j d)) refl) ∙ sym e

masters : PlanData → List ℕ
masters plan = map master_of plan.clusters

master_at : (plan : PlanData) (k : ℕ) (d : ℕ) → k < length plan.clusters → get_or (masters plan) k d ≡ master_of (cluster_at plan k)
unfolding masters
master_at plan k d within = get_or-map master_of plan.clusters k no_cluster d within

masters_apart : (plan : PlanData) → IsPlan plan → IsDistinct nat_eq (masters plan)
unfolding masters
masters_apart plan is = IsDistinct-from_apart nat_eq (masters plan) (λ i j d before within. other i j d before (omega (arith, within, length-map plan.clusters master_of)))
  where
    other : (i j d : ℕ) → i < j → j < length plan.clusters → nat_eq (get_or (masters plan) i d) (get_or (masters plan) j d) ≡ false
    other i j d before within = by (nat_eq (get_or (masters plan) i d) (get_or (masters plan) j d)) refl
      where
        by : (b : Bool) → nat_eq (get_or (masters plan) i d) (get_or (masters plan) j d) ≡ b → b ≡ false
        by false e = refl
        by true e =
            let first : i < length plan.clusters = omega (arith, before, within) in
            let same : get_or (masters plan) i d ≡ get_or (masters plan) j d = grind (arith, nat_tests, e) in
            let masters_same : master_of (cluster_at plan i) ≡ master_of (cluster_at plan j) = sym (master_at plan i d first) ∙ same ∙ master_at plan j d within in
            let there : Some i ≡ Some j = sym (master_in plan i is first) ∙ ap (cluster_of plan) masters_same ∙ master_in plan j is within in
            let equal : i ≡ j = cc in
            absurd (omega (arith, before, equal))

-- a cluster's master is there
pub master_known : (plan : PlanData) (k : ℕ) → IsPlan plan → k < length plan.clusters → master_of (cluster_at plan k) < length plan.controls
master_known plan k is within = is.members_known k 0 0 (is.some_members k within)

masters_below : (plan : PlanData) (c : ℕ) → IsPlan plan → list_any (nat_eq c) (masters plan) ≡ true → c < length plan.controls
unfolding masters
masters_below plan c is among = by (position (nat_eq c) (masters plan)) refl
  where
    by : (o : Option ℕ) → position (nat_eq c) (masters plan) ≡ o → c < length plan.controls
    by None e = let none : list_any (nat_eq c) (masters plan) ≡ false = any-None (nat_eq c) (masters plan) (ap is_some e) in cc
    by (Some k) e =
        let there = position-Some (nat_eq c) (masters plan) k 0 e in
        let within : k < length plan.clusters = omega (arith, there.0, length-map plan.clusters master_of) in
        let same : c ≡ get_or (masters plan) k 0 = grind (arith, nat_tests, there.1) in
        subst (λ (n : ℕ). n < length plan.controls) (sym (same ∙ master_at plan k 0 within)) (master_known plan k is within)

-- there are no more clusters than controls
pub few_clusters : (plan : PlanData) → IsPlan plan → length plan.clusters ≤ length plan.controls
unfolding masters
few_clusters plan is =
    omega (arith, length-map plan.clusters master_of, length-le_from_distinct_below (masters plan) (length plan.controls) (masters_apart plan is) (λ c among. masters_below plan c is among))

-- where nothing refuses a cluster, each check passes
unfoldable refusal_by : Bool → Bool → Bool → Bool → Option PlanFault
refusal_by size known taken crowded = if size then Some ClusterSize else if not known then Some UnknownNumber else if taken then Some InCluster else if crowded then Some ArrayAlone else None

passes : (size known taken crowded : Bool) → refusal_by size known taken crowded ≡ None → (size ≡ false) × (known ≡ true) × (taken ≡ false) × (crowded ≡ false)
unfolding refusal_by
passes false true false false is = (refl, refl, refl, refl)
passes false true false true is = cc
passes false true true crowded is = cc
passes false false taken crowded is = cc
passes true known taken crowded is = cc

pub or_false : (a b : Bool) → (a || b) ≡ false → a ≡ false
or_false true b h = cc
or_false false b h = refl

pub or_false_right : (a b : Bool) → (a || b) ≡ false → b ≡ false
or_false_right true b h = cc
or_false_right false b h = h

-- what a cluster that isn't refused is
pub record MayCluster (plan : PlanData) (named : List ℕ) (manual : Option ℤ) : Type 0 where
  pub some : 0 < length named
  pub few : length named ≤ MAX_MEMBERS
  pub known : All (λ c. c < length plan.controls) named
  pub differ : names_twice named ≡ false
  pub apart : (c : ℕ) → list_any (nat_eq c) named ≡ true → is_some (cluster_of plan c) ≡ false
  pub lone : crowds_array plan named manual ≡ false

pub may_cluster : (plan : PlanData) (named : List ℕ) (manual : Option ℤ) → cluster_refusal plan named manual ≡ None → MayCluster plan named manual
unfolding refusal_by
may_cluster plan named manual is =
    let each = passes (misfits named) (list_all (λ c. nat_lt c (length plan.controls)) named) (some_clustered plan named || names_twice named) (crowds_array plan named manual) is in
    record {
      some = grind (arith, nat_tests, or_false (nat_eq (length named) 0) (nat_lt MAX_MEMBERS (length named)) each.0);
      few = grind (arith, nat_tests, or_false_right (nat_eq (length named) 0) (nat_lt MAX_MEMBERS (length named)) each.0);
      differ = or_false_right (some_clustered plan named) (names_twice named) each.2;
      known = all_of (length plan.controls) named each.1;
      apart = λ c among. none_of (λ c. is_some (cluster_of plan c)) c named (or_false (some_clustered plan named) (names_twice named) each.2) among;
      lone = each.3;
    }

-- the cluster at a place, with one more at the end: one of those before, the new one, or none
abbrev pub Before : List ClusterData → ClusterData → ℕ → Type 0
Before clusters new k = (k < length clusters) × (get_or (clusters ++ new ∷ []) k no_cluster ≡ get_or clusters k no_cluster)

abbrev pub Last : List ClusterData → ClusterData → ℕ → Type 0
Last clusters new k = (k ≡ length clusters) × (get_or (clusters ++ new ∷ []) k no_cluster ≡ new)

abbrev pub Past : List ClusterData → ClusterData → ℕ → Type 0
Past clusters new k = (length clusters < k) × (get_or (clusters ++ new ∷ []) k no_cluster ≡ no_cluster)

pub cluster_more : (clusters : List ClusterData) (new : ClusterData) (k : ℕ) → Before clusters new k ⊎ (Last clusters new k ⊎ Past clusters new k)
cluster_more clusters new k = by (cases_lt k (length clusters)) (cases_lt (length clusters) k)
  where
    by : (k < length clusters) ⊎ (length clusters ≤ k) → (length clusters < k) ⊎ (k ≤ length clusters) → Before clusters new k ⊎ (Last clusters new k ⊎ Past clusters new k)
    by (inl before) other = inl (before, get_or_append_left clusters (new ∷ []) no_cluster k before)
    by (inr last) (inr le) =
        let at : length clusters ≡ k = omega (arith, last, le) in
        inr (inl (sym at, get_or_at clusters new [] no_cluster k at))
    by (inr last) (inl past) = inr (inr (past, get_or_past (clusters ++ new ∷ []) k no_cluster (omega (arith, past, length_push clusters new))))

abbrev named_as : List ℕ → Option ℤ → Relations → ClusterData
named_as named manual calls = record { members = named; manual = manual; calls = calls }

-- what holds of each, also of no cluster, holds of one more
clusters_more : (P : ClusterData → Type 0) (plan : PlanData) (named : List ℕ) (manual : Option ℤ) (calls : Relations) (k : ℕ) → ((i : ℕ) → P (cluster_at plan i)) → P no_cluster → P (named_as named manual calls)
    → Before plan.clusters (named_as named manual calls) k ⊎ (Last plan.clusters (named_as named manual calls) k ⊎ Past plan.clusters (named_as named manual calls) k)
    → P (cluster_at (with_cluster plan named manual calls) k)
clusters_more P plan named manual calls k each none new (inl old) = subst P (sym old.1) (each k)
clusters_more P plan named manual calls k each none new (inr (inl last)) = subst P (sym last.1) new
clusters_more P plan named manual calls k each none new (inr (inr past)) = subst P (sym past.1) none

some_more : (plan : PlanData) (named : List ℕ) (manual : Option ℤ) (calls : Relations) (k : ℕ) → IsPlan plan → MayCluster plan named manual → k < length (plan.clusters ++ named_as named manual calls ∷ [])
    → Before plan.clusters (named_as named manual calls) k ⊎ (Last plan.clusters (named_as named manual calls) k ⊎ Past plan.clusters (named_as named manual calls) k)
    → 0 < length (members (with_cluster plan named manual calls) k)
some_more plan named manual calls k is may within (inl old) = subst (λ (x : ClusterData). 0 < length x.members) (sym old.1) (is.some_members k old.0)
some_more plan named manual calls k is may within (inr (inl new)) = subst (λ (x : ClusterData). 0 < length x.members) (sym new.1) may.some
some_more plan named manual calls k is may within (inr (inr none)) = absurd (omega (arith, within, none.0, length_push plan.clusters (named_as named manual calls)))

apart_more : (plan : PlanData) (named : List ℕ) (manual : Option ℤ) (calls : Relations) (k c : ℕ) → IsPlan plan → MayCluster plan named manual → k < length (plan.clusters ++ named_as named manual calls ∷ [])
    → list_any (nat_eq c) (members (with_cluster plan named manual calls) k) ≡ true
    → Before plan.clusters (named_as named manual calls) k ⊎ (Last plan.clusters (named_as named manual calls) k ⊎ Past plan.clusters (named_as named manual calls) k)
    → cluster_of (with_cluster plan named manual calls) c ≡ Some k
apart_more plan named manual calls k c is may within among (inl old) =
    let all = plan.clusters ++ named_as named manual calls ∷ [] in
    let there : list_any (nat_eq c) (members plan k) ≡ true = subst (λ (x : ClusterData). list_any (nat_eq c) x.members ≡ true) old.1 among in
    let first = position-Some (has_member c) plan.clusters k no_cluster (is.members_apart k c old.0 there) in
    first_place (has_member c) all k no_cluster within
    (λ i lt. subst (λ (x : ClusterData). has_member c x ≡ false) (sym (get_or_append_left plan.clusters (named_as named manual calls ∷ []) no_cluster i (omega (arith, lt, old.0)))) (first.2 i lt))
    among
apart_more plan named manual calls k c is may within among (inr (inl new)) =
    let all = plan.clusters ++ named_as named manual calls ∷ [] in
    let own : list_any (nat_eq c) named ≡ true = subst (λ (x : ClusterData). list_any (nat_eq c) x.members ≡ true) new.1 among in
    let none : list_any (has_member c) plan.clusters ≡ false = any-None (has_member c) plan.clusters (may.apart c own) in
    first_place (has_member c) all k no_cluster within
    (λ i lt. subst (λ (x : ClusterData). has_member c x ≡ false) (sym (get_or_append_left plan.clusters (named_as named manual calls ∷ []) no_cluster i (omega (arith, lt, new.0))))
    (fails_at (has_member c) plan.clusters i no_cluster none (omega (arith, lt, new.0))))
    among
apart_more plan named manual calls k c is may within among (inr (inr none)) = absurd (omega (arith, within, none.0, length_push plan.clusters (named_as named manual calls)))

-- one more named cluster, of controls that are in none
pub is_plan_add : (plan : PlanData) (named : List ℕ) (manual : Option ℤ) (calls : Relations) → IsPlan plan → MayCluster plan named manual → IsPlan (with_cluster plan named manual calls)
is_plan_add plan named manual calls is may = record {
  few_controls = is.few_controls;
  few_handlers = is.few_handlers;
  well_formed = is.well_formed;
  items_known = is.items_known;
  items_taken = is.items_taken;
  some_members = λ k within. some_more plan named manual calls k is may within (cluster_more plan.clusters (named_as named manual calls) k);
  few_members = λ k. clusters_more (λ x. length x.members ≤ MAX_MEMBERS) plan named manual calls k is.few_members (omega arith) may.few (cluster_more plan.clusters (named_as named manual calls) k);
  members_known = λ k.
      clusters_more (λ x. All (λ c. c < length plan.controls) x.members) plan named manual calls k is.members_known (All-nil (λ c. c < length plan.controls)) may.known
      (cluster_more plan.clusters (named_as named manual calls) k);
  members_differ = λ k. clusters_more (λ x. names_twice x.members ≡ false) plan named manual calls k is.members_differ refl may.differ (cluster_more plan.clusters (named_as named manual calls) k);
  members_apart = λ k c within among. apart_more plan named manual calls k c is may within among (cluster_more plan.clusters (named_as named manual calls) k);
  lone_arrays = λ k.
      clusters_more (λ x. crowds_array plan x.members x.manual ≡ false) plan named manual calls k is.lone_arrays refl may.lone (cluster_more plan.clusters (named_as named manual calls) k);
  own_known = is.own_known;
  own_differ = is.own_differ;
  added_before = is.added_before;
  follow = is.follow;
}

-- where one of some controls passes, one of them does
any_among : (f : ℕ → Bool) (c : ℕ) (cs : List ℕ) → list_any (nat_eq c) cs ≡ true → f c ≡ true → list_any f cs ≡ true
any_among f c cs among is = by (list_any f cs) refl
  where
    by : (b : Bool) → list_any f cs ≡ b → b ≡ true
    by true e = refl
    by false e = let not_it : f c ≡ false = none_of f c cs e among in cc

-- some members of which one is an array, and which crowd none, are this one
only_by : (c : ℕ) (manual : Option ℤ) (cs : List ℕ) (some : Bool) → some ≡ true → ((is_some manual || nat_lt 1 (length cs)) && some) ≡ false → list_any (nat_eq c) cs ≡ true → (cs ≡ c ∷ []) × (manual ≡ None)
only_by c manual cs false is free among = absurd (cc)
only_by c (Some number) cs true is free among = absurd (cc)
only_by c None [] true is free among = absurd (cc)
only_by c None (d ∷ []) true is free among = (ap (λ (x : ℕ). x ∷ []) (sym (eqb-true c d (whole (nat_eq c d) among))), refl)
  where
    whole : (b : Bool) → (b || false) ≡ true → b ≡ true
    whole true h = refl
    whole false h = h
only_by c None (d ∷ e ∷ cs) true is free among = absurd (many (length cs) free)
  where
    many : (n : ℕ) → ((false || nat_lt 1 (suc (suc n))) && true) ≡ false → ⊥
    many n h = grind (arith, nat_tests, h)

-- an array is the only member of its cluster, which is no auto cluster
pub lone_array : (plan : PlanData) (c k : ℕ) → IsPlan plan → cluster_of plan c ≡ Some k → is_array (control plan c) ≡ true → (members plan k ≡ c ∷ []) × ((cluster_at plan k).manual ≡ None)
lone_array plan c k is own array =
    let among = cluster_of_member plan c k own in
    only_by c (cluster_at plan k).manual (members plan k) (list_any (λ d. is_array (control plan d)) (members plan k)) (any_among (λ d. is_array (control plan d)) c (members plan k) among array) (is.lone_arrays k) among

-- a cluster's number is small
pub place_within : (plan : PlanData) (c k : ℕ) → IsPlan plan → cluster_of plan c ≡ Some k → k < MAX_CONTROLS
place_within plan c k is found = omega (arith, few_clusters plan is, is.few_controls, cluster_of_within plan c k found)

-- one more control's cluster in a table of them
pub places_more : (plan : PlanData) (places : List ℕ) (n k : ℕ) → length places ≡ n → ((c : ℕ) → c < n → cluster_of plan c ≡ Some (get_or places c 0)) → cluster_of plan n ≡ Some k
    → (c : ℕ) → c < n + 1 → cluster_of plan c ≡ Some (get_or (places ++ k ∷ []) c 0)
places_more plan places n k many are here c within = by (cases_lt c n)
  where
    by : (c < n) ⊎ (n ≤ c) → cluster_of plan c ≡ Some (get_or (places ++ k ∷ []) c 0)
    by (inl before) = are c before ∙ ap (λ (i : ℕ). Some i) (sym (get_or_append_left places (k ∷ []) 0 c (omega (arith, before, many))))
    by (inr last) =
        let same : c ≡ n = omega (arith, last, within) in
        ap (cluster_of plan) same ∙ here ∙ ap (λ (i : ℕ). Some i) (sym (get_or_at places k [] 0 c (omega (arith, same, many))))
