-- The clusters that pairs name, pair after pair.
use Rattle.std.proofs.Common.{◌≡◌, ◌≢◌, ◌∙◌, ◌<◌, ◌≤◌, ◌+◌, ◌++◌, ◌==◌, ◌⊎◌, ◌||◌, not, ℕ, zero, suc, nat_eq, nat_lt, Bool, true, false, cond, List, [], ◌∷◌, length, count_by, Some, get_or, inl, inr, refl, sym, ap, arith}
use Rattle.std.specs.List.{list_any}
use Rattle.std.proofs.lemmas.Bool.Decides.{eqb_tells}
use Rattle.std.proofs.lemmas.List.Edits.{length-insert}
use Rattle.std.proofs.lemmas.List.Folds.{list_any-append, list_any_none}
use Rattle.std.proofs.lemmas.List.Sums.{length-filter, count_by-le-length}
use Rattle.ctrl_types.specs.declared.ids.Pair.{Pair}
use Rattle.ctrl_handlers.specs.Plan.{PlanData, IsPlan, cluster_of, members}
use Rattle.ctrl_handlers.proofs.ClusterLemmas.{cluster_of_within, cluster_of_member}
use Rattle.ctrl_clusters.specs.Overlay.{is_among, is_touched}
use Rattle.ctrl_clusters.proofs.NewRowLemmas.{member_apart}
use Rattle.ctrl_clusters.proofs.OverlayLemmas.{or_true_right}
use Rattle.ctrl_forecast.specs.Boards.{named_clusters}
use Rattle.ctrl_clusters.specs.Rising.{others, with_or_without}
use Rattle.ctrl_clusters.proofs.RisingLemmas.{passing, passing_more, passing_same, with_at, marked_passing}

or_false : (a b : Bool) → b ≡ false → (a || b) ≡ a
or_false true b none = refl
or_false false b none = none

-- a member is among one pair more
touched_more : (pairs : List Pair) (p : Pair) (ms : List ℕ) → is_touched (pairs ++ p ∷ []) ms ≡ (is_touched pairs ms || list_any (nat_eq p.control) ms)
touched_more pairs p [] = refl
touched_more pairs p (m ∷ ms) =
    ap (λ (b : Bool). b || is_touched (pairs ++ p ∷ []) ms) (list_any-append (λ r. r.control == m) pairs (p ∷ []))
    ∙ ap (λ (b : Bool). (is_among pairs m || (p.control == m || false)) || b) (touched_more pairs p ms)
    ∙ by (is_among pairs m) (p.control == m) (is_touched pairs ms) (list_any (nat_eq p.control) ms)
  where
    by : (a b c d : Bool) → ((a || (b || false)) || (c || d)) ≡ ((a || c) || (b || d))
    by true b c d = refl
    by false true true d = refl
    by false true false d = refl
    by false false c d = refl

touched_none : (ms : List ℕ) → is_touched [] ms ≡ false
touched_none [] = refl
touched_none (m ∷ ms) = touched_none ms

-- no pair names none
pub named_none : (plan : PlanData) → [] ≡ named_clusters plan []
named_none plan = sym (none (length plan.clusters))
  where
    none : (n : ℕ) → passing (λ k. is_touched [] (members plan k)) n ≡ []
    none zero = refl
    none (suc n) = passing_more (λ k. is_touched [] (members plan k)) n ∙ ap (λ (b : Bool). passing (λ k. is_touched [] (members plan k)) n ++ cond b (n ∷ []) []) (touched_none (members plan n))
        ∙ ap (λ (ks : List ℕ). ks ++ []) (none n)

-- one more names its cluster besides
pub named_more : (plan : PlanData) (pairs : List Pair) (p : Pair) (k : ℕ) → IsPlan plan → cluster_of plan p.control ≡ Some k → named_clusters plan (pairs ++ p ∷ []) ≡ with_or_without k true (named_clusters plan pairs)
named_more plan pairs p k is found =
    passing_same (λ j. is_touched (pairs ++ p ∷ []) (members plan j)) (with_at old k true) (length plan.clusters) (λ j lt. touched_more pairs p (members plan j) ∙ by j lt (eqb_tells k j))
    ∙ sym (marked_passing old k (length plan.clusters) true (cluster_of_within plan p.control k found))
  where
    old : ℕ → Bool
    old j = is_touched pairs (members plan j)

    by : (j : ℕ) → j < length plan.clusters → ((k == j) ≡ true × (k ≡ j)) ⊎ ((k == j) ≡ false × (k ≢ j)) → (old j || list_any (nat_eq p.control) (members plan j)) ≡ cond (nat_eq k j) true (old j)
    by j lt (inl own) =
        let in_it : list_any (nat_eq p.control) (members plan j) ≡ true = ap (λ (i : ℕ). list_any (nat_eq p.control) (members plan i)) (sym own.1) ∙ cluster_of_member plan p.control k found in
        or_true_right (old j) (list_any (nat_eq p.control) (members plan j)) in_it ∙ sym (ap (λ (b : Bool). cond b true (old j)) own.0)
    by j lt (inr off) =
        or_false (old j) (list_any (nat_eq p.control) (members plan j)) (member_apart plan p.control j (Some k) is lt found (λ same. off.1 (within same)))
        ∙ sym (ap (λ (b : Bool). cond b true (old j)) off.0)
      where
        within : Some k ≡ Some j → k ≡ j
        within same = cc

-- one that names no control names none
pub named_unknown : (plan : PlanData) (pairs : List Pair) (p : Pair) → IsPlan plan → length plan.controls ≤ p.control → named_clusters plan (pairs ++ p ∷ []) ≡ named_clusters plan pairs
named_unknown plan pairs p is past =
    passing_same (λ j. is_touched (pairs ++ p ∷ []) (members plan j)) (λ j. is_touched pairs (members plan j)) (length plan.clusters)
    (λ j lt. touched_more pairs p (members plan j) ∙ or_false (is_touched pairs (members plan j)) (list_any (nat_eq p.control) (members plan j)) (none j))
  where
    apart : (c : ℕ) → c < length plan.controls → ((p.control == c) ≡ true × (p.control ≡ c)) ⊎ ((p.control == c) ≡ false × (p.control ≢ c)) → nat_eq p.control c ≡ false
    apart c lt (inl same) = absurd (omega (arith, past, lt, same.1))
    apart c lt (inr other) = other.0

    none : (j : ℕ) → list_any (nat_eq p.control) (members plan j) ≡ false
    none j = list_any_none (nat_eq p.control) (members plan j) (λ i d at. apart (get_or (members plan j) i d) (is.members_known j i d at) (eqb_tells p.control (get_or (members plan j) i d)))
