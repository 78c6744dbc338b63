-- Which clusters pairs touch: those of their controls, each once.
use Rattle.std.proofs.Common.{◌≡◌, ◌≢◌, ℕ, ◌<◌, ◌==◌, ◌||◌, Bool, true, false, cond, nat_eq, List, [], ◌∷◌, ◌++◌, length, Option, None, Some, inl, inr, ◌⊎◌, subst, refl, ap, sym, ◌∙◌}
use Rattle.std.specs.List.{list_any, fold}
use Rattle.std.proofs.lemmas.Bool.Decides.{eqb_tells}
use Rattle.std.proofs.lemmas.List.Folds.{list_any-append}
use Rattle.ctrl_types.specs.declared.ids.Pair.{Pair}
use Rattle.ctrl_handlers.specs.Plan.{PlanData, IsPlan, cluster_of, members, names_twice}
use Rattle.ctrl_handlers.proofs.ClusterLemmas.{cluster_of_member, or_false, or_false_right}
use Rattle.ctrl_clusters.specs.Overlay.{is_among, is_touched}
use Rattle.ctrl_clusters.proofs.NewRowLemmas.{member_apart, not_equal, differs}
use Rattle.ctrl_lists.specs.Touched.{with_cluster, touched}

-- a control is in cluster k, where it is in this one
abbrev pub is_at : Option ℕ → ℕ → Bool
is_at None k = false
is_at (Some j) k = nat_eq k j

-- it is one of the members of the cluster that it is in, and of no other
in_own : (plan : PlanData) (c k : ℕ) → IsPlan plan → k < length plan.clusters → list_any (nat_eq c) (members plan k) ≡ is_at (cluster_of plan c) k
in_own plan c k is within = by (cluster_of plan c) refl
  where
    some_same : (j : ℕ) → Some j ≡ Some k → j ≡ k
    some_same j e = cc

    none_some : None ≡ Some k → ⊥
    none_some e = cc

    own : (j : ℕ) → cluster_of plan c ≡ Some j → ((k == j) ≡ true × (k ≡ j)) ⊎ ((k == j) ≡ false × (k ≢ j)) → list_any (nat_eq c) (members plan k) ≡ nat_eq k j
    own j found (inl h) = subst (λ (i : ℕ). list_any (nat_eq c) (members plan i) ≡ true) (sym h.1) (cluster_of_member plan c j found) ∙ sym h.0
    own j found (inr h) = member_apart plan c k (Some j) is within found (λ e. h.1 (sym (some_same j e))) ∙ sym h.0

    by : (o : Option ℕ) → cluster_of plan c ≡ o → list_any (nat_eq c) (members plan k) ≡ is_at o k
    by None found = member_apart plan c k None is within found none_some
    by (Some j) found = own j found (eqb_tells k j)

or_none : (a : Bool) → (a || false) ≡ a
or_none true = refl
or_none false = refl

or_assoc : (a b c : Bool) → ((a || b) || c) ≡ (a || (b || c))
or_assoc true b c = refl
or_assoc false b c = refl

or_swap : (a b c d : Bool) → ((a || b) || (c || d)) ≡ ((a || c) || (b || d))
or_swap true b c d = refl
or_swap false true true d = refl
or_swap false true false d = refl
or_swap false false c d = refl

-- one more cluster that may be touched already
touched_with : (clusters : List ℕ) (o : Option ℕ) (k : ℕ) → list_any (nat_eq k) (with_cluster clusters o) ≡ (list_any (nat_eq k) clusters || is_at o k)
touched_with clusters None k = sym (or_none (list_any (nat_eq k) clusters))
touched_with clusters (Some j) k = by (list_any (nat_eq j) clusters) refl (eqb_tells k j)
  where
    there : list_any (nat_eq j) clusters ≡ true → ((k == j) ≡ true × (k ≡ j)) ⊎ ((k == j) ≡ false × (k ≢ j)) → list_any (nat_eq k) clusters ≡ (list_any (nat_eq k) clusters || nat_eq k j)
    there among (inl h) = let own : list_any (nat_eq k) clusters ≡ true = subst (λ (i : ℕ). list_any (nat_eq i) clusters ≡ true) (sym h.1) among in rw own refl
    there among (inr h) = rw h.0 (sym (or_none (list_any (nat_eq k) clusters)))

    by : (b : Bool) → list_any (nat_eq j) clusters ≡ b → ((k == j) ≡ true × (k ≡ j)) ⊎ ((k == j) ≡ false × (k ≢ j))
        → list_any (nat_eq k) (cond b clusters (clusters ++ j ∷ [])) ≡ (list_any (nat_eq k) clusters || nat_eq k j)
    by true among same = there among same
    by false among same = list_any-append (nat_eq k) clusters (j ∷ []) ∙ ap (λ (b : Bool). list_any (nat_eq k) clusters || b) (or_none (nat_eq k j))

-- the clusters that pairs touch are those of their controls
touched_from : (plan : PlanData) (k : ℕ) (pairs : List Pair) (clusters : List ℕ)
    → list_any (nat_eq k) (fold (λ ks p. with_cluster ks (cluster_of plan p.control)) clusters pairs) ≡ (list_any (nat_eq k) clusters || list_any (λ p. is_at (cluster_of plan p.control) k) pairs)
touched_from plan k [] clusters = sym (or_none (list_any (nat_eq k) clusters))
touched_from plan k (p ∷ pairs) clusters =
    touched_from plan k pairs (with_cluster clusters (cluster_of plan p.control))
    ∙ ap (λ (b : Bool). b || list_any (λ p. is_at (cluster_of plan p.control) k) pairs) (touched_with clusters (cluster_of plan p.control) k)
    ∙ or_assoc (list_any (nat_eq k) clusters) (is_at (cluster_of plan p.control) k) (list_any (λ p. is_at (cluster_of plan p.control) k) pairs)

-- a member is among the pairs where some pair is one of a member
asked_some : (p : Pair) (pairs : List Pair) (cs : List ℕ) → is_touched (p ∷ pairs) cs ≡ (list_any (nat_eq p.control) cs || is_touched pairs cs)
asked_some p pairs [] = refl
asked_some p pairs (c ∷ cs) =
    ap (λ (b : Bool). is_among (p ∷ pairs) c || b) (asked_some p pairs cs)
    ∙ or_swap (nat_eq p.control c) (is_among pairs c) (list_any (nat_eq p.control) cs) (is_touched pairs cs)

asked_none : (cs : List ℕ) → is_touched [] cs ≡ false
asked_none [] = refl
asked_none (c ∷ cs) = asked_none cs

pub touched_members : (plan : PlanData) (pairs : List Pair) (k : ℕ) → IsPlan plan → k < length plan.clusters → is_touched pairs (members plan k) ≡ list_any (λ p. is_at (cluster_of plan p.control) k) pairs
touched_members plan [] k is within = asked_none (members plan k)
touched_members plan (p ∷ pairs) k is within =
    let own : list_any (nat_eq p.control) (members plan k) ≡ is_at (cluster_of plan p.control) k = in_own plan p.control k is within in
    asked_some p pairs (members plan k) ∙ rw (own, touched_members plan pairs k is within) refl

-- a cluster has a member among the pairs exactly where they touch it
pub touched_is : (plan : PlanData) (pairs : List Pair) (k : ℕ) → IsPlan plan → k < length plan.clusters → is_touched pairs (members plan k) ≡ list_any (nat_eq k) (touched plan pairs)
touched_is plan pairs k is within = touched_members plan pairs k is within ∙ sym (touched_from plan k pairs [])

not_equal_back : (a b : ℕ) → nat_eq a b ≡ false → nat_eq b a ≡ false
not_equal_back a b h = not_equal b a (λ e. differs a b h (sym e))

both_false : (a b : Bool) → a ≡ false → b ≡ false → (a || b) ≡ false
both_false a b h g = rw h g

-- one more that isn't among them
push_once : (ks : List ℕ) (k : ℕ) → names_twice ks ≡ false → list_any (nat_eq k) ks ≡ false → names_twice (ks ++ k ∷ []) ≡ false
push_once [] k once none = refl
push_once (j ∷ ks) k once none =
    let here : list_any (nat_eq j) (ks ++ k ∷ []) ≡ false =
    list_any-append (nat_eq j) ks (k ∷ []) ∙ both_false (list_any (nat_eq j) ks) (nat_eq j k || false) (or_false (list_any (nat_eq j) ks) (names_twice ks) once)
    (or_none (nat_eq j k) ∙ not_equal_back k j (or_false (nat_eq k j) (list_any (nat_eq k) ks) none)) in
    rw here (push_once ks k (or_false_right (list_any (nat_eq j) ks) (names_twice ks) once) (or_false_right (nat_eq k j) (list_any (nat_eq k) ks) none))

-- no cluster is touched twice
with_once : (clusters : List ℕ) (o : Option ℕ) → names_twice clusters ≡ false → names_twice (with_cluster clusters o) ≡ false
with_once clusters None once = once
with_once clusters (Some k) once = by (list_any (nat_eq k) clusters) refl
  where
    by : (b : Bool) → list_any (nat_eq k) clusters ≡ b → names_twice (cond b clusters (clusters ++ k ∷ [])) ≡ false
    by true found = once
    by false found = push_once clusters k once found

fold_once : (plan : PlanData) (pairs : List Pair) (clusters : List ℕ) → names_twice clusters ≡ false → names_twice (fold (λ ks (p : Pair). with_cluster ks (cluster_of plan p.control)) clusters pairs) ≡ false
fold_once plan [] clusters once = once
fold_once plan (p ∷ pairs) clusters once = fold_once plan pairs (with_cluster clusters (cluster_of plan p.control)) (with_once clusters (cluster_of plan p.control) once)

pub touched_once : (plan : PlanData) (pairs : List Pair) → names_twice (touched plan pairs) ≡ false
touched_once plan pairs = fold_once plan pairs [] refl
