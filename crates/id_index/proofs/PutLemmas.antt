-- One more entry: where it is put, and which number is found then.
use Rattle.std.proofs.Common.{◌≡◌, ℕ, ◌<◌, ◌≤◌, Bool, true, false, cond, nat_eq, List, [], ◌∷◌, ◌++◌, length, get_or, take, drop, Some, None, Option, is_some, refl, sym, ap, ◌∙◌, subst, arith}
use Rattle.std.specs.List.{insert}
use Rattle.std.proofs.lemmas.List.{append-nil, take-append-drop}
use Rattle.std.proofs.lemmas.List.Sorted.{IsNonDecreasingBy-insert}
use Rattle.std.proofs.lemmas.Bool.Decides.{nat_tests}
use Rattle.id_index.specs.Entries.{number_of, has_id, IsRising}
use Rattle.id_index.proofs.EntryLemmas.{IsFrom}

-- the first of two answers that there are
or_else : Option ℕ → Option ℕ → Option ℕ
or_else (Some n) other = Some n
or_else None other = other

-- what is found in two lists, one after the other
found_in_both : (xs ys : List (ℕ × ℕ)) (id : ℕ) → number_of (xs ++ ys) id ≡ or_else (number_of xs id) (number_of ys id)
unfolding or_else
found_in_both [] ys id = refl
found_in_both (x ∷ xs) ys id = by (nat_eq id x.0) (found_in_both xs ys id)
  where
    by : (b : Bool) → number_of (xs ++ ys) id ≡ or_else (number_of xs id) (number_of ys id)
        → cond b (Some x.1) (number_of (xs ++ ys) id) ≡ or_else (cond b (Some x.1) (number_of xs id)) (number_of ys id)
    by true h = refl
    by false h = h

-- the same is found after one more entry where the same was found before it
pub same_after : (xs ys : List (ℕ × ℕ)) (e : ℕ × ℕ) (id : ℕ) → number_of xs id ≡ number_of ys id → number_of (xs ++ e ∷ []) id ≡ number_of (ys ++ e ∷ []) id
same_after xs ys e id same =
    found_in_both xs (e ∷ []) id ∙ ap (λ (o : Option ℕ). or_else o (number_of (e ∷ []) id)) same ∙ sym (found_in_both ys (e ∷ []) id)

-- an entry whose id is there already adds nothing
pub there_already : (xs : List (ℕ × ℕ)) (id number : ℕ) → has_id xs id ≡ true → (other : ℕ) → number_of xs other ≡ number_of (xs ++ (id, number) ∷ []) other
unfolding or_else
there_already xs id number has other = by (number_of xs other) refl (nat_eq other id) refl ∙ sym (found_in_both xs ((id, number) ∷ []) other)
  where
    by : (o : Option ℕ) → number_of xs other ≡ o → (b : Bool) → nat_eq other id ≡ b → o ≡ or_else o (cond b (Some number) None)
    by (Some n) is b e = refl
    by None is false e = refl
    by None is true e =
        let same : other ≡ id = grind (arith, nat_tests, e) in
        let none : has_id xs id ≡ false = subst (λ (n : ℕ). has_id xs n ≡ false) same (ap is_some is) in cc

-- an entry of a new id, wherever it is put
put_between : (xs ys : List (ℕ × ℕ)) (id number other : ℕ) → has_id (xs ++ ys) id ≡ false
    → number_of (xs ++ (id, number) ∷ ys) other ≡ cond (nat_eq other id) (Some number) (number_of (xs ++ ys) other)
put_between [] ys id number other none = refl
put_between (x ∷ xs) ys id number other none = by (nat_eq id x.0) (nat_eq other x.0) refl refl none (λ h. put_between xs ys id number other h)
  where
    by : (a b : Bool) → nat_eq id x.0 ≡ a → nat_eq other x.0 ≡ b → is_some (cond a (Some x.1) (number_of (xs ++ ys) id)) ≡ false
        → (has_id (xs ++ ys) id ≡ false → number_of (xs ++ (id, number) ∷ ys) other ≡ cond (nat_eq other id) (Some number) (number_of (xs ++ ys) other))
        → cond b (Some x.1) (number_of (xs ++ (id, number) ∷ ys) other) ≡ cond (nat_eq other id) (Some number) (cond b (Some x.1) (number_of (xs ++ ys) other))
    by true b e f h rest = cc
    by false true e f h rest = let differs : nat_eq other id ≡ false = grind (arith, nat_tests, e, f) in rw differs refl
    by false false e f h rest = rest h

-- so it is found as if it stood at the end
pub put_in_place : (xs : List (ℕ × ℕ)) (p id number : ℕ) → has_id xs id ≡ false → (other : ℕ) → number_of (insert xs p (id, number)) other ≡ number_of (xs ++ (id, number) ∷ []) other
put_in_place xs p id number none other =
    put_between (take p xs) (drop p xs) id number other (subst (λ (ys : List (ℕ × ℕ)). has_id ys id ≡ false) (sym (take-append-drop p xs)) none)
    ∙ ap (λ (ys : List (ℕ × ℕ)). cond (nat_eq other id) (Some number) (number_of ys other)) (take-append-drop p xs ∙ sym (append-nil xs))
    ∙ sym (put_between xs [] id number other (subst (λ (ys : List (ℕ × ℕ)). has_id ys id ≡ false) (sym (append-nil xs)) none))

-- and put in its place it leaves the ids rising
pub rising_put : (xs : List (ℕ × ℕ)) (p id number : ℕ) → IsRising xs → IsFrom xs id p → p ≤ length xs → IsRising (insert xs p (id, number))
rising_put xs p id number rising point within =
    IsNonDecreasingBy-insert (λ (e : ℕ × ℕ). e.0) xs p (id, number) rising within
    (λ k d below. let less : (get_or xs k d).0 < id = point.0 k d (omega arith) below in omega (arith, less))
    (λ k d after lt. point.1 k d after lt)
