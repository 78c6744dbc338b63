-- The first place that passes a test, of those below a number.
use Rattle.std.proofs.Common.{rules, arith, ◌≡◌, ◌<◌, ◌+◌, ◌++◌, ◌∷◌, [], List, length, take, slice_set, ◌∙◌, ℕ, zero, suc, Bool, true, false, Option, None, Some, cond, ap, subst, sym, refl}
use Rattle.std.specs.List.{filter, find, range_with_len}
use Rattle.std.proofs.Math.Seq.{take-suc-set}
use Rattle.std.proofs.lemmas.List.{append-nil, map-id}
use Rattle.std.proofs.lemmas.List.FromFn.{filter_of_map_range_with_len_more}

-- where neither of two is found, it isn't the first
not_first : (b : Bool) (later : Option ℕ) (a : ℕ) → cond b (Some a) later ≡ None → (b ≡ false) × (later ≡ None)
not_first true later a none = search rules
not_first false later a none = (refl, none)

found_from : (p : ℕ → Bool) (a k n : ℕ) → k < n → find p (range_with_len a k) ≡ None → p (a + k) ≡ true → find p (range_with_len a n) ≡ Some (a + k)
found_from p a k zero below none here = absurd (omega arith)
found_from p a zero (suc n) below none here =
    ap (λ b. cond b (Some a) (find p (range_with_len (a + 1) n))) (subst (λ m. p m ≡ true) (omega arith) here) ∙ ap Some (omega arith)
found_from p a (suc k) (suc n) below none here =
    let both = not_first (p a) (find p (range_with_len (a + 1) k)) a none in
    ap (λ b. cond b (Some a) (find p (range_with_len (a + 1) n))) both.0
    ∙ found_from p (a + 1) k n (omega arith) both.1 (subst (λ m. p m ≡ true) (omega arith) here)
    ∙ ap Some (omega arith)

none_from : (p : ℕ → Bool) (a k : ℕ) → find p (range_with_len a k) ≡ None → p (a + k) ≡ false → find p (range_with_len a (suc k)) ≡ None
none_from p a zero none here = ap (λ b. cond b (Some a) None) (subst (λ m. p m ≡ false) (omega arith) here)
none_from p a (suc k) none here =
    let both = not_first (p a) (find p (range_with_len (a + 1) k)) a none in
    ap (λ b. cond b (Some a) (find p (range_with_len (a + 1) (suc k)))) both.0
    ∙ none_from p (a + 1) k both.1 (subst (λ m. p m ≡ false) (omega arith) here)

-- one that passes behind such that don't is the first
pub found_at : (p : ℕ → Bool) (k n : ℕ) → k < n → find p (range_with_len 0 k) ≡ None → p k ≡ true → find p (range_with_len 0 n) ≡ Some k
found_at p k n below none here = found_from p 0 k n below none (subst (λ m. p m ≡ true) (omega arith) here) ∙ ap Some (omega arith)

-- one that doesn't behind such that don't
pub none_more : (p : ℕ → Bool) (k : ℕ) → find p (range_with_len 0 k) ≡ None → p k ≡ false → find p (range_with_len 0 (k + 1)) ≡ None
none_more p k none here =
    let next : k + 1 ≡ suc k = omega arith in
    ap (λ n. find p (range_with_len 0 n)) next ∙ none_from p 0 k none (subst (λ m. p m ≡ false) (omega arith) here)

-- what passes a test, of one number more
pub filter_more : (p : ℕ → Bool) (n : ℕ) → filter p (range_with_len 0 (n + 1)) ≡ filter p (range_with_len 0 n) ++ cond (p n) (n ∷ []) []
filter_more p n =
    let from_start : 0 + n ≡ n = omega arith in
    ap (filter p) (sym (map-id (range_with_len 0 (n + 1)))) ∙ filter_of_map_range_with_len_more p (λ i. i) 0 n n from_start
    ∙ ap (λ numbers. filter p numbers ++ cond (p n) (n ∷ []) []) (map-id (range_with_len 0 n))

pub filter_one_more : (p : ℕ → Bool) (n : ℕ) (numbers : List ℕ) (count : ℕ) → count < length numbers → p n ≡ true → take count numbers ≡ filter p (range_with_len 0 n)
    → take (count + 1) (slice_set numbers count n) ≡ filter p (range_with_len 0 (n + 1))
filter_one_more p n numbers count room passes so_far =
    let next : count + 1 ≡ suc count = omega arith in
    ap (λ k. take k (slice_set numbers count n)) next ∙ take-suc-set numbers count n room ∙ ap (λ front. front ++ n ∷ []) so_far
    ∙ sym (filter_more p n ∙ ap (λ b. filter p (range_with_len 0 n) ++ cond b (n ∷ []) []) passes)

pub filter_no_more : (p : ℕ → Bool) (n : ℕ) (numbers : List ℕ) (count : ℕ) → p n ≡ false → take count numbers ≡ filter p (range_with_len 0 n) → take count numbers ≡ filter p (range_with_len 0 (n + 1))
filter_no_more p n numbers count fails so_far =
    so_far ∙ sym (filter_more p n ∙ ap (λ b. filter p (range_with_len 0 n) ++ cond b (n ∷ []) []) fails ∙ append-nil (filter p (range_with_len 0 n)))
