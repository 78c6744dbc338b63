-- The loops over a list.
use Rattle.std.proofs.Common.{◌≡◌, ℕ, ◌<◌, ◌≤◌, ◌+◌, Bool, true, false, cond, nat_eq, eq-eqb, ◌||◌, map, List, [], ◌∷◌, ◌++◌, length, take, drop, get_or, Option, None, Some, arith, refl, sym, subst, ap, ◌∙◌}
use Rattle.std.specs.List.{All, filter_map, fold, list_any}
use Rattle.std.proofs.lemmas.List.{length_push, take-append-drop, map-append}
use Rattle.std.proofs.lemmas.List.Folds.{list_any-append}
use Rattle.std.proofs.lemmas.List.Sums.{fold-append}
use Rattle.std.proofs.lemmas.List.{drop_more, take_more}
use Rattle.std.proofs.lemmas.List.Elements.{filter_map-append, All-push}
use Rattle.ctrl_types.specs.declared.check.Check.{Check}
use Rattle.ctrl_types.specs.declared.ids.Pair.{Pair}
use Rattle.ctrl_handlers.specs.Plan.{PlanData, cluster_of}
use Rattle.ctrl_lists.specs.Checks.{first_from, found_at}
use Rattle.ctrl_lists.specs.Touched.{with_cluster, touched}
use Rattle.ctrl_types.specs.declared.refusal.Refusal.{Refusal}

-- the next item is refused, or one behind it
pub first_next : {X : Type 0} (refused : X → Option Check) (n : ℕ) (xs : List X) (i : ℕ) (d : X) → i < length xs
    → first_from refused n (drop i xs) ≡ found_at n (refused (get_or xs i d)) (first_from refused (n + 1) (drop (i + 1) xs))
first_next refused n xs i d within = rw (drop_more xs i d within) refl

-- one more item that gives something
pub gives_more : {X Y : Type 0} (h : X → Option Y) (xs : List X) (i : ℕ) (d : X) (y : Y) → i < length xs → h (get_or xs i d) ≡ Some y
    → filter_map h (take (i + 1) xs) ≡ filter_map h (take i xs) ++ y ∷ []
gives_more h xs i d y within gives =
    ap (filter_map h) (take_more xs i d within) ∙ filter_map-append h (take i xs) (get_or xs i d ∷ []) ∙ rw gives refl

-- the same, where it is pushed behind those so far
pub gives_pushed : {X Y : Type 0} (h : X → Option Y) (xs : List X) (i : ℕ) (d : X) (y : Y) (ys new : List Y) → i < length xs → ys ≡ filter_map h (take i xs) → new ≡ ys ++ y ∷ [] → h (get_or xs i d) ≡ Some y
    → new ≡ filter_map h (take (i + 1) xs)
gives_pushed h xs i d y ys new within so_far pushed gives = pushed ∙ rw so_far (sym (gives_more h xs i d y within gives))

-- what a call gave
pub gave : {Y : Type 0} (found own : Option Y) (y : Y) → found ≡ own → found ≡ Some y → own ≡ Some y
gave found own y same is = sym same ∙ is

-- an item that isn't refused is passed over
pub passes : {X : Type 0} (refused : X → Option Check) (all : Option Refusal) (xs : List X) (i : ℕ) (d : X) → i < length xs → refused (get_or xs i d) ≡ None
    → first_from refused i (drop i xs) ≡ all → first_from refused (i + 1) (drop (i + 1) xs) ≡ all
passes refused all xs i d within none left = sym (first_next refused i xs i d within ∙ rw none refl) ∙ left

-- one that is refused is the first
pub stops : {X : Type 0} (refused : X → Option Check) (all : Option Refusal) (xs : List X) (i : ℕ) (d : X) (check : Check) → i < length xs → refused (get_or xs i d) ≡ Some check
    → first_from refused i (drop i xs) ≡ all → all ≡ Some (record { check = check; entry = Some i })
stops refused all xs i d check within some left = sym left ∙ first_next refused i xs i d within ∙ rw some refl

-- one more cluster leaves no fewer
with_more : (clusters : List ℕ) (o : Option ℕ) → length clusters ≤ length (with_cluster clusters o)
with_more clusters None = omega arith
with_more clusters (Some k) = by (list_any (nat_eq k) clusters)
  where
    by : (b : Bool) → length clusters ≤ length (cond b clusters (clusters ++ k ∷ []))
    by true = omega arith
    by false = omega (arith, length_push clusters k)

fold_more : (plan : PlanData) (clusters : List ℕ) (pairs : List Pair) → length clusters ≤ length (fold (λ ks (p : Pair). with_cluster ks (cluster_of plan p.control)) clusters pairs)
fold_more plan clusters [] = omega arith
fold_more plan clusters (p ∷ pairs) =
    omega (arith, with_more clusters (cluster_of plan p.control), fold_more plan (with_cluster clusters (cluster_of plan p.control)) pairs)

-- the first of some pairs touch clusters, and then the others
touched_all : (plan : PlanData) (pairs : List Pair) (n : ℕ) → touched plan pairs ≡ fold (λ ks (p : Pair). with_cluster ks (cluster_of plan p.control)) (touched plan (take n pairs)) (drop n pairs)
touched_all plan pairs n =
    ap (touched plan) (sym (take-append-drop n pairs)) ∙ fold-append (λ ks (p : Pair). with_cluster ks (cluster_of plan p.control)) [] (take n pairs) (drop n pairs)

-- the first of some pairs touch no more clusters than all
pub touched_more : (plan : PlanData) (pairs : List Pair) (n : ℕ) → length (touched plan (take n pairs)) ≤ length (touched plan pairs)
touched_more plan pairs n = omega (arith, fold_more plan (touched plan (take n pairs)) (drop n pairs), ap length (touched_all plan pairs n))

-- one more pair touches its control's cluster
pub touched_next : (plan : PlanData) (pairs : List Pair) (i : ℕ) (d : Pair) → i < length pairs
    → touched plan (take (i + 1) pairs) ≡ with_cluster (touched plan (take i pairs)) (cluster_of plan (get_or pairs i d).control)
touched_next plan pairs i d within =
    ap (touched plan) (take_more pairs i d within)
    ∙ fold-append (λ ks (p : Pair). with_cluster ks (cluster_of plan p.control)) [] (take i pairs) (get_or pairs i d ∷ [])

-- the clusters that were touched so far, with the next pair's
pub each_next : (plan : PlanData) (pairs : List Pair) (i : ℕ) (d : Pair) (clusters new : List ℕ) → i < length pairs → clusters ≡ touched plan (take i pairs)
    → new ≡ with_cluster clusters (cluster_of plan (get_or pairs i d).control) → new ≡ touched plan (take (i + 1) pairs)
each_next plan pairs i d clusters new within each is =
    is ∙ ap (λ (ks : List ℕ). with_cluster ks (cluster_of plan (get_or pairs i d).control)) each ∙ sym (touched_next plan pairs i d within)

-- a cluster that is added is there
with_own : (clusters : List ℕ) (k : ℕ) → list_any (nat_eq k) (with_cluster clusters (Some k)) ≡ true
with_own clusters k = by (list_any (nat_eq k) clusters) refl
  where
    or_true : (b : Bool) → (b || true) ≡ true
    or_true true = refl
    or_true false = refl

    by : (b : Bool) → list_any (nat_eq k) clusters ≡ b → list_any (nat_eq k) (cond b clusters (clusters ++ k ∷ [])) ≡ true
    by true is = is
    by false is = list_any-append (nat_eq k) clusters (k ∷ []) ∙ rw (eq-eqb k k refl) (or_true (list_any (nat_eq k) clusters))

-- and one that is there stays
with_kept : (clusters : List ℕ) (o : Option ℕ) (k : ℕ) → list_any (nat_eq k) clusters ≡ true → list_any (nat_eq k) (with_cluster clusters o) ≡ true
with_kept clusters None k there = there
with_kept clusters (Some j) k there = by (list_any (nat_eq j) clusters)
  where
    by : (b : Bool) → list_any (nat_eq k) (cond b clusters (clusters ++ j ∷ [])) ≡ true
    by true = there
    by false = list_any-append (nat_eq k) clusters (j ∷ []) ∙ rw there refl

fold_kept : (plan : PlanData) (clusters : List ℕ) (pairs : List Pair) (k : ℕ) → list_any (nat_eq k) clusters ≡ true
    → list_any (nat_eq k) (fold (λ ks (p : Pair). with_cluster ks (cluster_of plan p.control)) clusters pairs) ≡ true
fold_kept plan clusters [] k there = there
fold_kept plan clusters (p ∷ pairs) k there = fold_kept plan (with_cluster clusters (cluster_of plan p.control)) pairs k (with_kept clusters (cluster_of plan p.control) k there)

-- the cluster of each pair's control is touched
pub touched_has : (plan : PlanData) (pairs : List Pair) (i : ℕ) (d : Pair) (k : ℕ) → i < length pairs → cluster_of plan (get_or pairs i d).control ≡ Some k
    → list_any (nat_eq k) (touched plan pairs) ≡ true
touched_has plan pairs i d k within found =
    let here : list_any (nat_eq k) (touched plan (take (i + 1) pairs)) ≡ true =
    ap (list_any (nat_eq k)) (touched_next plan pairs i d within)
    ∙ ap (λ (o : Option ℕ). list_any (nat_eq k) (with_cluster (touched plan (take i pairs)) o)) found
    ∙ with_own (touched plan (take i pairs)) k in
    ap (list_any (nat_eq k)) (touched_all plan pairs (i + 1)) ∙ fold_kept plan (touched plan (take (i + 1) pairs)) (drop (i + 1) pairs) k here

-- what one more item is mapped to
pub map_more : {X Y : Type 0} (f : X → Y) (xs : List X) (i : ℕ) (d : X) → i < length xs → map f (take (i + 1) xs) ≡ map f (take i xs) ++ f (get_or xs i d) ∷ []
map_more f xs i d within = ap (map f) (take_more xs i d within) ∙ map-append f (take i xs) (get_or xs i d ∷ [])

-- the same, where it is pushed behind those so far
pub map_pushed : {X Y : Type 0} (f : X → Y) (xs : List X) (i : ℕ) (d : X) (ys new : List Y) (y : Y) → i < length xs → ys ≡ map f (take i xs) → new ≡ ys ++ y ∷ [] → y ≡ f (get_or xs i d)
    → new ≡ map f (take (i + 1) xs)
map_pushed f xs i d ys new y within so_far pushed is = pushed ∙ rw (so_far, is) (sym (map_more f xs i d within))

-- what holds of some items and of one more holds of all of them
pub all_pushed : {X : Type 0} (P : X → Type 0) (xs new : List X) (x : X) → new ≡ xs ++ x ∷ [] → All P xs → P x → All P new
all_pushed {X} P xs new x pushed old one = subst (λ (ys : List X). All P ys) (sym pushed) (All-push P xs x old one)

-- one more item
pub pushed_length : {X : Type 0} (xs new : List X) (x : X) (n : ℕ) → new ≡ xs ++ x ∷ [] → length xs ≡ n → length new ≡ n + 1
pushed_length xs new x n pushed each = rw (pushed, length_push xs x, each) refl

-- no more than one more
pub few_more : (old new n : ℕ) → old ≤ n → new ≤ old + 1 → new ≤ n + 1
few_more old new n few more = omega arith

-- no more are asked than clusters are touched, with the next
pub asked_more : (clusters new more : List ℕ) (before now after : ℕ) → new ≡ more → now ≤ before + length clusters → after + length clusters ≤ now + length more → after ≤ before + length new
asked_more clusters new more before now after is old most = omega (arith, ap length is)

-- and no more than all touch
pub asked_within : (plan : PlanData) (pairs : List Pair) (i : ℕ) (d : Pair) (clusters : List ℕ) (before now after : ℕ) → i < length pairs → clusters ≡ touched plan (take i pairs) → now ≤ before + length clusters
    → after + length clusters ≤ now + length (with_cluster clusters (cluster_of plan (get_or pairs i d).control)) → after ≤ before + length (touched plan pairs)
asked_within plan pairs i d clusters before now after within each old most =
    omega (arith, ap length (each_next plan pairs i d clusters _ within each refl), touched_more plan pairs (i + 1))
