-- How many elements pass a test, where another test passes more of them.
use Rattle.std.proofs.Common.{◌≡◌, ◌∙◌, ◌<◌, ◌≤◌, ◌+◌, ◌⊎◌, ℕ, zero, suc, Bool, true, false, not, ◌&&◌, ◌||◌, cond, List, [], ◌∷◌, ◌++◌, filter, get_or, length, inl, inr, refl, sym, ap, subst, arith}
use Rattle.std.specs.List.{list_any, range_with_len}
use Rattle.std.proofs.lemmas.Bool.{true≢false, cases_lt}
use Rattle.std.proofs.lemmas.List.{map-id, get_or_append_left, get_or_at}
use Rattle.std.proofs.lemmas.List.FromFn.{filter_of_map_range_with_len_more}
use Rattle.std.proofs.lemmas.List.Sums.{count_by-le-length, length-filter}

-- as many at least
pub counted_more : {X : Type 0} (p q : X → Bool) → ((x : X) → p x ≡ true → q x ≡ true) → (xs : List X) → length (filter p xs) ≤ length (filter q xs)
counted_more p q more [] = omega arith
counted_more p q more (x ∷ xs) = by (p x) (q x) (more x) (counted_more p q more xs)
  where
    by : (a b : Bool) → (a ≡ true → b ≡ true) → length (filter p xs) ≤ length (filter q xs) → length (cond a (x ∷ filter p xs) (filter p xs)) ≤ length (cond b (x ∷ filter q xs) (filter q xs))
    by true true same rest = omega (arith, rest)
    by true false same rest = absurd (true≢false (sym (same refl)))
    by false true same rest = omega (arith, rest)
    by false false same rest = rest

-- and more, where some element passes it alone
pub counted_other : {X : Type 0} (p q : X → Bool) → ((x : X) → p x ≡ true → q x ≡ true) → (xs : List X) → list_any (λ x. q x && not (p x)) xs ≡ true
    → length (filter p xs) < length (filter q xs)
counted_other p q more [] none = absurd (true≢false (sym none))
counted_other p q more (x ∷ xs) some = by (p x) (q x) (more x) (counted_other p q more xs) some
  where
    by : (a b : Bool) → (a ≡ true → b ≡ true) → (list_any (λ y. q y && not (p y)) xs ≡ true → length (filter p xs) < length (filter q xs))
        → ((b && not a) || list_any (λ y. q y && not (p y)) xs) ≡ true → length (cond a (x ∷ filter p xs) (filter p xs)) < length (cond b (x ∷ filter q xs) (filter q xs))
    by true true same rest other = omega (arith, rest other)
    by true false same rest other = absurd (true≢false (sym (same refl)))
    by false true same rest other = omega (arith, counted_more p q more xs)
    by false false same rest other = rest other

-- where as many pass as there are, each does
pub each_counted : {X : Type 0} (p : X → Bool) → (xs : List X) → length xs ≤ length (filter p xs) → (k : ℕ) (d : X) → k < length xs → p (get_or xs k d) ≡ true
each_counted {X = X} p [] many k d lt = absurd (omega (arith, lt))
each_counted {X = X} p (x ∷ xs) many k d lt = by k (p x) refl many lt (each_counted p xs)
  where
    few : length (filter p xs) ≤ length xs
    few = subst (λ n. n ≤ length xs) (sym (length-filter p xs)) (count_by-le-length p xs)

    by : (k : ℕ) (a : Bool) → p x ≡ a → suc (length xs) ≤ length (cond a (x ∷ filter p xs) (filter p xs)) → k < suc (length xs)
        → (length xs ≤ length (filter p xs) → (k : ℕ) (d : X) → k < length xs → p (get_or xs k d) ≡ true) → p (get_or (x ∷ xs) k d) ≡ true
    by zero true is all within rest = is
    by (suc j) true is all within rest = rest (omega (arith, all)) j d (omega (arith, within))
    by j false is all within rest = absurd (omega (arith, all, few))

-- where none passes there is none
pub none_passes : {X : Type 0} (p : X → Bool) → ((x : X) → p x ≡ false) → (xs : List X) → filter p xs ≡ []
none_passes p none [] = refl
none_passes p none (x ∷ xs) = ap (λ b. cond b (x ∷ filter p xs) (filter p xs)) (none x) ∙ none_passes p none xs

-- one number more
pub filter_more : (p : ℕ → Bool) (n : ℕ) → filter p (range_with_len 0 (n + 1)) ≡ filter p (range_with_len 0 n) ++ cond (p n) (n ∷ []) []
filter_more p n =
    let from_start : 0 + n ≡ n = omega arith in
    ap (filter p) (sym (map-id (range_with_len 0 (n + 1)))) ∙ filter_of_map_range_with_len_more p (λ i. i) 0 n n from_start
    ∙ ap (λ numbers. filter p numbers ++ cond (p n) (n ∷ []) []) (map-id (range_with_len 0 n))

-- tests that agree below a count pass the same numbers
pub filter_same : (p q : ℕ → Bool) (a n : ℕ) → ((k : ℕ) → k < a + n → p k ≡ q k) → filter p (range_with_len a n) ≡ filter q (range_with_len a n)
filter_same p q a zero same = refl
filter_same p q a (suc n) same =
    ap (λ b. cond b (a ∷ filter p (range_with_len (a + 1) n)) (filter p (range_with_len (a + 1) n))) (same a (omega arith))
    ∙ ap (λ (rest : List ℕ). cond (q a) (a ∷ rest) rest) (filter_same p q (a + 1) n (λ k lt. same k (omega (arith, lt))))

-- a list that a function gives the elements of, and one more
pub made_more : {X : Type 0} (f : ℕ → X) (d : X) (xs : List X) (i : ℕ) (x : X) → length xs ≡ i → ((n : ℕ) → n < i → get_or xs n d ≡ f n) → x ≡ f i
    → (n : ℕ) → n < i + 1 → get_or (xs ++ x ∷ []) n d ≡ f n
made_more f d xs i x many made is n lt = by (cases_lt n i)
  where
    by : (n < i) ⊎ (i ≤ n) → get_or (xs ++ x ∷ []) n d ≡ f n
    by (inl less) = get_or_append_left xs (x ∷ []) d n (omega (arith, less, many)) ∙ made n less
    by (inr last) =
        let here : i ≡ n = omega (arith, last, lt) in
        get_or_at xs x [] d n (many ∙ here) ∙ is ∙ ap f here
