-- The least number above another.
use Rattle.std.proofs.Common.{◌≡◌, ℕ, min, ◌<◌, ◌≤◌, ◌||◌, Bool, true, false, cond, nat_eq, nat_lt, List, [], ◌∷◌, None, Some, refl, sym, subst, arith, inl, inr, ◌⊎◌}
use Rattle.std.specs.List.{fold, filter, reduce, list_any}
use Rattle.std.proofs.lemmas.Bool.{cases_lt}
use Rattle.std.proofs.lemmas.Bool.Decides.{nat_tests}
use Rattle.ctrl_handlers.specs.Visible.{least_above}

or_true : (b : Bool) → (b || true) ≡ true
or_true true = refl
or_true false = refl

-- what a test of a number says: no greater than itself, or found in the rest
is_first : (m x : ℕ) (xs : List ℕ) → m ≡ x → (nat_eq m x || list_any (nat_eq m) xs) ≡ true
is_first m x xs same = let test : nat_eq m x ≡ true = grind (arith, nat_tests) in rw test refl

in_rest : (m x : ℕ) (xs : List ℕ) → list_any (nat_eq m) xs ≡ true → (nat_eq m x || list_any (nat_eq m) xs) ≡ true
in_rest m x xs h = rw h (or_true (nat_eq m x))

either : (m x : ℕ) (xs : List ℕ) → (nat_eq m x || list_any (nat_eq m) xs) ≡ true → (m ≡ x) ⊎ (list_any (nat_eq m) xs ≡ true)
either m x xs h = by (nat_eq m x) refl h
  where
    by : (b : Bool) → nat_eq m x ≡ b → (b || list_any (nat_eq m) xs) ≡ true → (m ≡ x) ⊎ (list_any (nat_eq m) xs ≡ true)
    by true e g = inl (grind (arith, nat_tests, e))
    by false e g = inr g

-- the least of a number and others is one of them, and none is less
pub record IsLeast (a : ℕ) (xs : List ℕ) (least : ℕ) : Type 0 where
  pub first : least ≤ a
  pub others : (m : ℕ) → list_any (nat_eq m) xs ≡ true → least ≤ m
  pub among : (least ≡ a) ⊎ (list_any (nat_eq least) xs ≡ true)

fold_min_more : (a x least : ℕ) (xs : List ℕ) → IsLeast (min a x) xs least → IsLeast a (x ∷ xs) least
fold_min_more a x least xs ih = record {
  first = omega (arith, ih.first);
  others = λ m h. other m (either m x xs h);
  among = among ih.among (cases_lt a x);
}
  where
    other : (m : ℕ) → (m ≡ x) ⊎ (list_any (nat_eq m) xs ≡ true) → least ≤ m
    other m (inl same) = omega (arith, ih.first, same)
    other m (inr rest) = ih.others m rest

    among : (least ≡ min a x) ⊎ (list_any (nat_eq least) xs ≡ true) → (a < x) ⊎ (x ≤ a)
        → (least ≡ a) ⊎ ((nat_eq least x || list_any (nat_eq least) xs) ≡ true)
    among (inl e) (inl lt) = inl (omega (arith, e, lt))
    among (inl e) (inr le) = inr (is_first least x xs (omega (arith, e, le)))
    among (inr h) order = inr (in_rest least x xs h)

fold_min : (a : ℕ) (xs : List ℕ) → IsLeast a xs (fold min a xs)
fold_min a [] = record { first = omega arith; others = λ m h. cc; among = inl refl }
fold_min a (x ∷ xs) = fold_min_more a x (fold min (min a x) xs) xs (fold_min (min a x) xs)

-- what a filter keeps is among the numbers and passes
kept_more : (test : ℕ → Bool) (m x : ℕ) (xs : List ℕ) → (list_any (nat_eq m) (filter test xs) ≡ true → (list_any (nat_eq m) xs ≡ true) × (test m ≡ true))
    → (t : Bool) → test x ≡ t → list_any (nat_eq m) (cond t (x ∷ filter test xs) (filter test xs)) ≡ true
    → ((nat_eq m x || list_any (nat_eq m) xs) ≡ true) × (test m ≡ true)
kept_more test m x xs ih true e h = by (either m x (filter test xs) h)
  where
    by : (m ≡ x) ⊎ (list_any (nat_eq m) (filter test xs) ≡ true) → ((nat_eq m x || list_any (nat_eq m) xs) ≡ true) × (test m ≡ true)
    by (inl same) = (is_first m x xs same, rw same e)
    by (inr rest) = (in_rest m x xs (ih rest).0, (ih rest).1)
kept_more test m x xs ih false e h = (in_rest m x xs (ih h).0, (ih h).1)

kept : (test : ℕ → Bool) (m : ℕ) (xs : List ℕ) → list_any (nat_eq m) (filter test xs) ≡ true → (list_any (nat_eq m) xs ≡ true) × (test m ≡ true)
kept test m [] h = cc
kept test m (x ∷ xs) h = kept_more test m x xs (kept test m xs) (test x) refl h

-- what is among the numbers and passes is kept
keeps_more : (test : ℕ → Bool) (m x : ℕ) (xs : List ℕ) → (list_any (nat_eq m) xs ≡ true → list_any (nat_eq m) (filter test xs) ≡ true)
    → (t : Bool) → test x ≡ t → test m ≡ true → (m ≡ x) ⊎ (list_any (nat_eq m) xs ≡ true) → list_any (nat_eq m) (cond t (x ∷ filter test xs) (filter test xs)) ≡ true
keeps_more test m x xs ih true e p (inl same) = is_first m x (filter test xs) same
keeps_more test m x xs ih true e p (inr rest) = in_rest m x (filter test xs) (ih rest)
keeps_more test m x xs ih false e p (inl same) = let bad : test x ≡ true = subst (λ (y : ℕ). test y ≡ true) same p in cc
keeps_more test m x xs ih false e p (inr rest) = ih rest

keeps : (test : ℕ → Bool) (m : ℕ) (xs : List ℕ) → list_any (nat_eq m) xs ≡ true → test m ≡ true → list_any (nat_eq m) (filter test xs) ≡ true
keeps test m [] h p = cc
keeps test m (x ∷ xs) h p = keeps_more test m x xs (λ g. keeps test m xs g p) (test x) refl p (either m x xs h)

-- the least above is among the numbers, lies above, and none that does is less
abbrev pub IsLeastAbove : ℕ → ℕ → List ℕ → Type 0
IsLeastAbove n least numbers = (list_any (nat_eq least) numbers ≡ true) × (n < least) × ((m : ℕ) → list_any (nat_eq m) numbers ≡ true → n < m → least ≤ m)

above : (n m : ℕ) → nat_lt n m ≡ true → n < m
above n m h = grind (arith, nat_tests, h)

is_above : (n m : ℕ) → n < m → nat_lt n m ≡ true
is_above n m h = grind (arith, nat_tests, h)

least_in : (n least : ℕ) (numbers xs : List ℕ) → filter (nat_lt n) numbers ≡ xs → reduce min xs ≡ Some least → IsLeastAbove n least numbers
least_in n least numbers [] e h = cc
least_in n least numbers (x ∷ xs) e h =
    let found : fold min x xs ≡ least = cc in
    let all : IsLeast x xs least = subst (IsLeast x xs) found (fold_min x xs) in
    let own = kept (nat_lt n) least numbers (subst (λ (ys : List ℕ). list_any (nat_eq least) ys ≡ true) (sym e) (first all.among)) in (
      own.0,
      above n least own.1,
      λ m among over.
          below all m (either m x xs (subst (λ (ys : List ℕ). list_any (nat_eq m) ys ≡ true) e (keeps (nat_lt n) m numbers among (is_above n m over)))),
    )
  where
    first : (least ≡ x) ⊎ (list_any (nat_eq least) xs ≡ true) → (nat_eq least x || list_any (nat_eq least) xs) ≡ true
    first (inl same) = is_first least x xs same
    first (inr rest) = in_rest least x xs rest

    below : IsLeast x xs least → (m : ℕ) → (m ≡ x) ⊎ (list_any (nat_eq m) xs ≡ true) → least ≤ m
    below all m (inl same) = omega (arith, all.first, same)
    below all m (inr rest) = all.others m rest

pub least_is : (n least : ℕ) (numbers : List ℕ) → least_above n numbers ≡ Some least
    → (list_any (nat_eq least) numbers ≡ true) × (n < least) × ((m : ℕ) → list_any (nat_eq m) numbers ≡ true → n < m → least ≤ m)
least_is n least numbers is = least_in n least numbers (filter (nat_lt n) numbers) refl is

-- where there is none, none lies above
none_in : (n m : ℕ) (numbers xs : List ℕ) → filter (nat_lt n) numbers ≡ xs → reduce min xs ≡ None → list_any (nat_eq m) numbers ≡ true → (n < m) ⊎ (m ≤ n) → m ≤ n
none_in n m numbers [] e h among (inl over) =
    let here : list_any (nat_eq m) [] ≡ true = subst (λ (ys : List ℕ). list_any (nat_eq m) ys ≡ true) e (keeps (nat_lt n) m numbers among (is_above n m over)) in cc
none_in n m numbers [] e h among (inr below) = below
none_in n m numbers (x ∷ xs) e h among order = cc

pub none_is : (n m : ℕ) (numbers : List ℕ) → least_above n numbers ≡ None → list_any (nat_eq m) numbers ≡ true → m ≤ n
none_is n m numbers is among = none_in n m numbers (filter (nat_lt n) numbers) refl is among (cases_lt n m)
