-- There is an id that a handler doesn't show.
use Rattle.std.proofs.Common.{arith, ◌≡◌, ◌∙◌, ◌<◌, ◌≤◌, ◌+◌, ℕ, zero, suc, Bool, true, false, not, ◌||◌, cond, List, [], ◌∷◌, filter, length, Option, None, Some, nat_eq, eq-eqb, unwrap_or, refl, ap}
use Rattle.std.proofs.lemmas.Bool.Decides.{nat_tests}
use Rattle.std.proofs.lemmas.List.FromFn.{length-range_with_len}
use Rattle.std.specs.List.{find as first_that, list_any, range_with_len, AllByRecursion as Each}
use Rattle.std.specs.Option.{is_none}
use Rattle.ctrl_settle.specs.Control.{Control}
use Rattle.ctrl_handlers.specs.Plan.{PlanData, control_in}
use Rattle.ctrl_handlers.specs.Visible.{find, first_with_id, visible}
use Rattle.device_history.specs.Asking.{free_id}

-- the numbers rise
AreRising : List ℕ → Type 0
AreRising [] = Unit {0}
AreRising (x ∷ xs) = Each (λ y. x < y) xs × AreRising xs

-- numbers without one
others : ℕ → List ℕ → List ℕ
others i xs = filter (λ n. not (nat_eq i n)) xs

each_other : (P : ℕ → Type 0) (i : ℕ) (xs : List ℕ) → Each P xs → Each P (others i xs)
unfolding others
each_other P i [] each = tt
each_other P i (x ∷ xs) each = by (nat_eq i x) (each_other P i xs each.1)
  where
    by : (b : Bool) → Each P (filter (λ n. not (nat_eq i n)) xs) → Each P (cond (not b) (x ∷ filter (λ n. not (nat_eq i n)) xs) (filter (λ n. not (nat_eq i n)) xs))
    by true rest = rest
    by false rest = (each.0, rest)

rising_others : (i : ℕ) (xs : List ℕ) → AreRising xs → AreRising (others i xs)
unfolding AreRising others
rising_others i [] rising = tt
rising_others i (x ∷ xs) rising = by (nat_eq i x) (rising_others i xs rising.1)
  where
    by : (b : Bool) → AreRising (filter (λ n. not (nat_eq i n)) xs) → AreRising (cond (not b) (x ∷ filter (λ n. not (nat_eq i n)) xs) (filter (λ n. not (nat_eq i n)) xs))
    by true rest = rest
    by false rest = (each_other (λ y. x < y) i xs rising.0, rest)

-- a number below all is none of them
none_is : (i : ℕ) (xs : List ℕ) → Each (λ y. i < y) xs → others i xs ≡ xs
unfolding others
none_is i [] each = refl
none_is i (x ∷ xs) each =
    let other : nat_eq i x ≡ false = grind (arith, nat_tests, each.0) in
    rw (other, none_is i xs each.1) refl

-- rising numbers without one are at most one less
one_less : (i : ℕ) (xs : List ℕ) → AreRising xs → length xs ≤ suc (length (others i xs))
unfolding AreRising others
one_less i [] rising = omega arith
one_less i (x ∷ xs) rising = by (nat_eq i x) refl (one_less i xs rising.1)
  where
    by : (b : Bool) → nat_eq i x ≡ b → length xs ≤ suc (length (filter (λ n. not (nat_eq i n)) xs))
        → suc (length xs) ≤ suc (length (cond (not b) (x ∷ filter (λ n. not (nat_eq i n)) xs) (filter (λ n. not (nat_eq i n)) xs)))
    by true is rest =
        let same : i ≡ x = grind (arith, nat_tests, is) in
        let all : length (filter (λ n. not (nat_eq i n)) xs) ≡ length xs = rw same (ap length (none_is x xs rising.0)) in
        omega (arith, all)
    by false is rest = omega (arith, rest)

-- a number that is left is another one, and was there
still_there : (i n : ℕ) (xs : List ℕ) → list_any (nat_eq n) (others i xs) ≡ true → (nat_eq i n ≡ false) × (list_any (nat_eq n) xs ≡ true)
unfolding others
still_there i n [] there = cc
still_there i n (x ∷ xs) there = by (nat_eq i x) (nat_eq n x) refl refl there (still_there i n xs)
  where
    by : (b t : Bool) → nat_eq i x ≡ b → nat_eq n x ≡ t → list_any (nat_eq n) (cond (not b) (x ∷ filter (λ n. not (nat_eq i n)) xs) (filter (λ n. not (nat_eq i n)) xs)) ≡ true
        → (list_any (nat_eq n) (filter (λ n. not (nat_eq i n)) xs) ≡ true → (nat_eq i n ≡ false) × (list_any (nat_eq n) xs ≡ true)) → (nat_eq i n ≡ false) × ((t || list_any (nat_eq n) xs) ≡ true)
    by true true is own h more = let rest = more h in (rest.0, refl)
    by true false is own h more = more h
    by false true is own h more =
        let same : n ≡ x = grind (arith, nat_tests, own) in
        (ap (nat_eq i) same ∙ is, refl)
    by false false is own h more = more (rw own at h)

-- of more rising numbers than there are controls one is no control's id
free : (controls : List Control) (numbers xs : List ℕ) → AreRising xs → length numbers < length xs → (n : ℕ) × (list_any (nat_eq n) xs ≡ true) × (first_with_id controls numbers (record { 0 = n }) ≡ None)
unfolding AreRising
free controls [] [] rising more = absurd (omega (arith, more))
free controls [] (x ∷ xs) rising more = (x, rw (eq-eqb x x refl) refl, refl)
free controls (c ∷ numbers) xs rising more =
    let less = one_less (control_in controls c).id.0 xs rising in
    let rest = free controls numbers (others (control_in controls c).id.0 xs) (rising_others (control_in controls c).id.0 xs rising) (omega (arith, more, less)) in
    let still = still_there (control_in controls c).id.0 rest.0 xs rest.1 in
    (rest.0, still.1, rw still.0 rest.2)

-- where some number passes a test, the first that does is found
passes : (test : ℕ → Bool) (n : ℕ) (xs : List ℕ) → list_any (nat_eq n) xs ≡ true → test n ≡ true → test (unwrap_or (first_that test xs) 0) ≡ true
passes test n [] there own = cc
passes test n (x ∷ xs) there own = by (test x) (nat_eq n x) refl refl there (λ h. passes test n xs h own)
  where
    by : (b t : Bool) → test x ≡ b → nat_eq n x ≡ t → (t || list_any (nat_eq n) xs) ≡ true → (list_any (nat_eq n) xs ≡ true → test (unwrap_or (first_that test xs) 0) ≡ true) → test (unwrap_or (cond b (Some x) (first_that test xs)) 0) ≡ true
    by true t is same h more = is
    by false true is same h more =
        let x_is : n ≡ x = grind (arith, nat_tests, same) in
        let clash : test n ≡ false = ap test x_is ∙ is in
        cc
    by false false is same h more = more h

each_above : (i a n : ℕ) → i < a → Each (λ y. i < y) (range_with_len a n)
each_above i a zero less = tt
each_above i a (suc n) less = (less, each_above i (a + 1) n (omega (arith, less)))

rising_range : (a n : ℕ) → AreRising (range_with_len a n)
unfolding AreRising
rising_range a zero = tt
rising_range a (suc n) = (each_above a (a + 1) n (omega arith), rising_range (a + 1) n)

-- nothing is shown under such an id
pub free_unshown : (plan : PlanData) (handler : ℕ) → find plan handler (free_id plan handler) ≡ None
free_unshown plan handler =
    let xs : List ℕ = range_with_len 0 (suc (length (visible plan handler))) in
    let one = free plan.controls (visible plan handler) xs (rising_range 0 (suc (length (visible plan handler)))) (omega (arith, length-range_with_len 0 (suc (length (visible plan handler))))) in
    is_nothing (find plan handler (free_id plan handler))
    (passes (λ n. is_none (find plan handler (record { 0 = n }))) one.0 xs one.1 (ap (λ (o : Option ℕ). is_none o) one.2))
  where
    is_nothing : (o : Option ℕ) → is_none o ≡ true → o ≡ None
    is_nothing None h = refl
    is_nothing (Some c) h = cc
