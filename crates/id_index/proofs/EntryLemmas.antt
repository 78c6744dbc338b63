-- Entries in rising order of their ids: what a place among them says of an id.
use Rattle.std.proofs.Common.{◌≡◌, ℕ, zero, suc, ◌<◌, ◌≤◌, Bool, true, false, cond, nat_eq, eq-eqb, List, [], ◌∷◌, length, get_or, Some, None, is_some, refl, sym, ap, ◌∙◌, subst, arith, inl, inr, ◌⊎◌}
use Rattle.std.proofs.lemmas.Bool.{cases_lt}
use Rattle.std.proofs.lemmas.Bool.Decides.{nat_tests}
use Rattle.std.specs.List.Sorted.{IsPartitionPoint}
use Rattle.id_index.specs.Entries.{number_of, has_id, IsNext, IsPastAll, IsRising}

-- the id of an entry is there
has_at : (xs : List (ℕ × ℕ)) (k : ℕ) (d : ℕ × ℕ) → k < length xs → has_id xs (get_or xs k d).0 ≡ true
has_at [] k d lt = absurd (omega (arith, lt))
has_at (x ∷ xs) zero d lt = rw (eq-eqb x.0 x.0 refl) refl
has_at (x ∷ xs) (suc k) d lt = by (nat_eq (get_or xs k d).0 x.0) (has_at xs k d (omega (arith, lt)))
  where
    by : (b : Bool) → has_id xs (get_or xs k d).0 ≡ true → is_some (cond b (Some x.1) (number_of xs (get_or xs k d).0)) ≡ true
    by true h = refl
    by false h = h

-- what holds of each entry's id holds of an id that is there
of_has : (P : ℕ → Type 0) (xs : List (ℕ × ℕ)) (m : ℕ) (d : ℕ × ℕ) → ((k : ℕ) → k < length xs → P (get_or xs k d).0) → has_id xs m ≡ true → P m
of_has P [] m d each has = cc
of_has P (x ∷ xs) m d each has = by (nat_eq m x.0) refl has (λ h. of_has P xs m d (λ k lt. each (suc k) (omega (arith, lt))) h)
  where
    by : (b : Bool) → nat_eq m x.0 ≡ b → is_some (cond b (Some x.1) (number_of xs m)) ≡ true → (has_id xs m ≡ true → P m) → P m
    by true e h rest =
        let same : x.0 ≡ m = grind (arith, nat_tests, e) in
        subst P same (each 0 (omega arith))
    by false e h rest = rest h

-- where each entry has another id, none is found
none_with : (xs : List (ℕ × ℕ)) (id : ℕ) (d : ℕ × ℕ) → ((k : ℕ) → k < length xs → nat_eq id (get_or xs k d).0 ≡ false) → number_of xs id ≡ None
none_with [] id d each = refl
none_with (x ∷ xs) id d each = rw (each 0 (omega arith)) (none_with xs id d (λ k lt. each (suc k) (omega (arith, lt))))

-- the first entry with an id, after lesser ones
first_at : (xs : List (ℕ × ℕ)) (p id : ℕ) (d : ℕ × ℕ) → p < length xs → ((k : ℕ) → k < p → (get_or xs k d).0 < id) → (get_or xs p d).0 ≡ id → number_of xs id ≡ Some (get_or xs p d).1
first_at [] p id d lt before at = absurd (omega (arith, lt))
first_at (x ∷ xs) zero id d lt before at = rw (eq-eqb id x.0 (sym at)) refl
first_at (x ∷ xs) (suc p) id d lt before at =
    let less : x.0 < id = before 0 (omega arith) in
    let other : nat_eq id x.0 ≡ false = grind (arith, nat_tests) in
    rw other (first_at xs p id d (omega (arith, lt)) (λ k below. before (suc k) (omega (arith, below))) at)

-- the place of the first entry whose id isn't less
abbrev pub IsFrom : List (ℕ × ℕ) → ℕ → ℕ → Type 0
IsFrom xs id p = IsPartitionPoint (λ e. e.0 < id) (λ e. id ≤ e.0) xs p

-- the place of the first entry whose id is greater
abbrev pub IsAbove : List (ℕ × ℕ) → ℕ → ℕ → Type 0
IsAbove xs id p = IsPartitionPoint (λ e. e.0 ≤ id) (λ e. id < e.0) xs p

-- past all entries the id isn't there
pub found_past : (xs : List (ℕ × ℕ)) (id p : ℕ) → IsFrom xs id p → length xs ≤ p → None ≡ number_of xs id
found_past xs id p point past = sym (none_with xs id (0, 0) other)
  where
    other : (k : ℕ) → k < length xs → nat_eq id (get_or xs k (0, 0)).0 ≡ false
    other k lt =
        let less : (get_or xs k (0, 0)).0 < id = point.0 k (0, 0) (omega arith) (omega (arith, lt, past)) in
        grind (arith, nat_tests, less)

-- the entry at the place has the id
pub found_here : (xs : List (ℕ × ℕ)) (id p : ℕ) (e : ℕ × ℕ) → IsFrom xs id p → p < length xs → e ≡ get_or xs p e → e.0 ≡ id → Some e.1 ≡ number_of xs id
found_here xs id p e point within at same =
    ap (λ (x : ℕ × ℕ). Some x.1) at
    ∙ sym (first_at xs p id e within (λ k below. point.0 k e (omega arith) below) (ap (λ (x : ℕ × ℕ). x.0) (sym at) ∙ same))

-- or it has another, and then no entry has it
pub found_none : (xs : List (ℕ × ℕ)) (id p : ℕ) (e : ℕ × ℕ) → IsRising xs → IsFrom xs id p → p < length xs → e ≡ get_or xs p e → nat_eq e.0 id ≡ false → None ≡ number_of xs id
found_none xs id p e rising point within at differs = sym (none_with xs id e (λ k lt. other k lt (cases_lt k p)))
  where
    least : id ≤ (get_or xs p e).0
    least = point.1 p e (omega arith) within

    apart : nat_eq (get_or xs p e).0 id ≡ false
    apart = subst (λ (x : ℕ × ℕ). nat_eq x.0 id ≡ false) at differs

    other : (k : ℕ) → k < length xs → (k < p) ⊎ (p ≤ k) → nat_eq id (get_or xs k e).0 ≡ false
    other k lt (inl before) =
        let less : (get_or xs k e).0 < id = point.0 k e (omega arith) before in
        grind (arith, nat_tests, less)
    other k lt (inr after) =
        let more : (get_or xs p e).0 ≤ (get_or xs k e).0 = rising p k e after lt in
        grind (arith, nat_tests, least, apart, more)

-- past all entries no id is greater
pub next_past : (xs : List (ℕ × ℕ)) (id p : ℕ) → IsAbove xs id p → length xs ≤ p → IsPastAll xs id
next_past xs id p point past =
    λ other has. of_has (λ m. m ≤ id) xs other (0, 0) (λ k lt. point.0 k (0, 0) (omega arith) (omega (arith, lt, past))) has

-- the entry at the place has the next id
pub next_here : (xs : List (ℕ × ℕ)) (id p : ℕ) (e : ℕ × ℕ) → IsRising xs → IsAbove xs id p → p < length xs → e ≡ get_or xs p e → IsNext xs id e.0
next_here xs id p e rising point within at = subst (λ (x : ℕ × ℕ). IsNext xs id x.0) (sym at) (has_at xs p e within, point.1 p e (omega arith) within, least)
  where
    either : (k : ℕ) → k < length xs → (k < p) ⊎ (p ≤ k) → id < (get_or xs k e).0 → (get_or xs p e).0 ≤ (get_or xs k e).0
    either k lt (inl before) over = let below : (get_or xs k e).0 ≤ id = point.0 k e (omega arith) before in absurd (omega (arith, below, over))
    either k lt (inr after) over = rising p k e after lt

    least : (other : ℕ) → has_id xs other ≡ true → id < other → (get_or xs p e).0 ≤ other
    least other has over = of_has (λ m. id < m → (get_or xs p e).0 ≤ m) xs other e (λ k lt. either k lt (cases_lt k p)) has over
