-- What is reached by links has all that a link leads to from it, as the law `reached_on` of reach_table says.
use Rattle.std.proofs.Common.{◌≡◌, ◌<◌, ◌≤◌, ◌+◌, ◌⊎◌, ℕ, zero, suc, Bool, true, false, not, ◌&&◌, ◌||◌, cond, List, [], ◌∷◌, filter, length, nat_eq, inl, inr, refl, sym, ◌∙◌, subst, arith}
use Rattle.std.specs.List.{Any, list_any}
use Rattle.std.proofs.lemmas.Bool.{and_parts, and_from, or_cases, or_left, or_right, cases_Bool, eq-eqb, eqb-true, not_from_false, true≢false}
use Rattle.std.proofs.lemmas.List.Folds.{Any-from_list_any, list_any-from_Any}
use Rattle.std.proofs.lemmas.List.Sums.{count_by-le-length, length-filter}
use Rattle.reach_table.specs.Reached.{is_led_to, is_near, is_reached}

-- a number is near itself
pub near_itself : (links : List (ℕ × ℕ)) (from most : ℕ) → is_near links from most from ≡ true
unfolding is_near
near_itself links from zero = eq-eqb from from refl
near_itself links from (suc most) = or_left (is_near links from most from) (is_led_to links (is_near links from most) from) (near_itself links from most)

-- from more is led to more
led_more : (links : List (ℕ × ℕ)) (these those : ℕ → Bool) (n : ℕ) → ((k : ℕ) → these k ≡ true → those k ≡ true) → is_led_to links these n ≡ true → is_led_to links those n ≡ true
led_more links these those n more led =
    let found = Any-from_list_any (λ link. these link.0 && nat_eq link.1 n) links led in
    let parts = and_parts (these found.1.0) (nat_eq found.1.1 n) found.4 in
    list_any-from_Any (λ link. those link.0 && nat_eq link.1 n) links (found.0, found.1, found.2, found.3, and_from (those found.1.0) (nat_eq found.1.1 n) (more found.1.0 parts.0) parts.1)

-- with one link more is near what was, and what a link leads to from that
near_more : (links : List (ℕ × ℕ)) (from most n : ℕ) → is_near links from most n ≡ true → is_near links from (suc most) n ≡ true
unfolding is_near
near_more links from most n near = or_left (is_near links from most n) (is_led_to links (is_near links from most) n) near

near_led : (links : List (ℕ × ℕ)) (from most n : ℕ) → is_led_to links (is_near links from most) n ≡ true → is_near links from (suc most) n ≡ true
unfolding is_near
near_led links from most n led = or_right (is_near links from most n) (is_led_to links (is_near links from most) n) led

near_cases : (links : List (ℕ × ℕ)) (from most n : ℕ) → is_near links from (suc most) n ≡ true → (is_near links from most n ≡ true) ⊎ (is_led_to links (is_near links from most) n ≡ true)
unfolding is_near
near_cases links from most n near = or_cases (is_near links from most n) (is_led_to links (is_near links from most) n) near

-- all that a link leads to from these is among them
abbrev HoldsLed : List (ℕ × ℕ) → (ℕ → Bool) → Type 0
HoldsLed links these = (n : ℕ) → is_led_to links these n ≡ true → these n ≡ true

-- once nothing more is led to, nothing more is
held_next : (links : List (ℕ × ℕ)) (from most : ℕ) → HoldsLed links (is_near links from most) → HoldsLed links (is_near links from (suc most))
held_next links from most held n led =
    near_more links from most n (held n (led_more links (is_near links from (suc most)) (is_near links from most) n (λ k near. back k (near_cases links from most k near)) led))
  where
    back : (k : ℕ) → (is_near links from most k ≡ true) ⊎ (is_led_to links (is_near links from most) k ≡ true) → is_near links from most k ≡ true
    back k (inl near) = near
    back k (inr led) = held k led

-- whether a link leads to what wasn't near by one link less
abbrev leads_on : List (ℕ × ℕ) → ℕ → ℕ → ℕ × ℕ → Bool
leads_on links from most link = is_near links from (suc most) link.1 && not (is_near links from most link.1)

-- where none does, nothing more is led to
held_where : (links : List (ℕ × ℕ)) (from most : ℕ) → list_any (leads_on links from most) links ≡ false → HoldsLed links (is_near links from most)
held_where links from most none n led = by (cases_Bool (is_near links from most n))
  where
    found : Any (λ link. (is_near links from most link.0 && nat_eq link.1 n) ≡ true) links
    found = Any-from_list_any (λ link. is_near links from most link.0 && nat_eq link.1 n) links led

    end : found.1.1 ≡ n
    end = eqb-true found.1.1 n (and_parts (is_near links from most found.1.0) (nat_eq found.1.1 n) found.4).1

    by : (is_near links from most n ≡ true) ⊎ (is_near links from most n ≡ false) → is_near links from most n ≡ true
    by (inl near) = near
    by (inr far) =
        let passes : leads_on links from most found.1 ≡ true =
        subst (λ k. (is_near links from (suc most) k && not (is_near links from most k)) ≡ true) (sym end)
        (and_from (is_near links from (suc most) n) (not (is_near links from most n)) (near_led links from most n led) (not_from_false (is_near links from most n) far)) in
        absurd (true≢false (sym (list_any-from_Any (leads_on links from most) links (found.0, found.1, found.2, found.3, passes)) ∙ none))

-- elements that pass a test, and those that pass only another which passes more
counted_both : {X : Type 0} (p q : X → Bool) → ((x : X) → p x ≡ true → q x ≡ true) → (xs : List X) → length (filter p xs) + length (filter (λ x. q x && not (p x)) xs) ≤ length (filter q xs)
counted_both p q more [] = omega arith
counted_both {X = X} p q more (x ∷ xs) = by (p x) (q x) (more x) (counted_both p q more xs)
  where
    by : (a b : Bool) → (a ≡ true → b ≡ true) → length (filter p xs) + length (filter (λ y. q y && not (p y)) xs) ≤ length (filter q xs)
        → length (cond a (x ∷ filter p xs) (filter p xs)) + length (cond (b && not a) (x ∷ filter (λ y. q y && not (p y)) xs) (filter (λ y. q y && not (p y)) xs)) ≤ length (cond b (x ∷ filter q xs) (filter q xs))
    by true true same rest = omega (arith, rest)
    by true false same rest = absurd (true≢false (sym (same refl)))
    by false true same rest = omega (arith, rest)
    by false false same rest = rest

some_counted : {X : Type 0} (p : X → Bool) → (xs : List X) → list_any p xs ≡ true → 0 < length (filter p xs)
some_counted p [] some = absurd (true≢false (sym some))
some_counted {X = X} p (x ∷ xs) some = by (p x) (some_counted p xs) some
  where
    by : (b : Bool) → (list_any p xs ≡ true → 0 < length (filter p xs)) → (b || list_any p xs) ≡ true → 0 < length (cond b (x ∷ filter p xs) (filter p xs))
    by true rest any = omega arith
    by false rest any = rest any

-- so many links lead to what is near
abbrev leading : List (ℕ × ℕ) → ℕ → ℕ → ℕ
leading links from most = length (filter (λ link. is_near links from most link.1) links)

leading_more : (links : List (ℕ × ℕ)) (from most : ℕ) → list_any (leads_on links from most) links ≡ true → leading links from most < leading links from (suc most)
leading_more links from most some =
    omega (arith, counted_both (λ link. is_near links from most link.1) (λ link. is_near links from (suc most) link.1) (λ link. near_more links from most link.1) links, some_counted (leads_on links from most) links some)

-- With each link more one leads to more at least, or nothing more is led to.
held_or : (links : List (ℕ × ℕ)) (from most : ℕ) → HoldsLed links (is_near links from most) ⊎ (most < leading links from (suc most))
held_or links from zero = by (cases_Bool (list_any (leads_on links from 0) links))
  where
    by : (list_any (leads_on links from 0) links ≡ true) ⊎ (list_any (leads_on links from 0) links ≡ false) → HoldsLed links (is_near links from 0) ⊎ (0 < leading links from 1)
    by (inl some) = inr (omega (arith, leading_more links from 0 some))
    by (inr none) = inl (held_where links from 0 none)
held_or links from (suc most) = by (held_or links from most) (cases_Bool (list_any (leads_on links from (suc most)) links))
  where
    by : HoldsLed links (is_near links from most) ⊎ (most < leading links from (suc most)) → (list_any (leads_on links from (suc most)) links ≡ true) ⊎ (list_any (leads_on links from (suc most)) links ≡ false)
        → HoldsLed links (is_near links from (suc most)) ⊎ (suc most < leading links from (suc (suc most)))
    by (inl held) either = inl (held_next links from most held)
    by (inr many) (inl some) = inr (omega (arith, many, leading_more links from (suc most) some))
    by (inr many) (inr none) = inl (held_where links from (suc most) none)

-- what a link leads to from what is reached is reached
pub reached_on : (links : List (ℕ × ℕ)) (from n : ℕ) → is_led_to links (is_reached links from) n ≡ true → is_reached links from n ≡ true
reached_on links from = by (held_or links from (length links))
  where
    by : HoldsLed links (is_near links from (length links)) ⊎ (length links < leading links from (suc (length links))) → HoldsLed links (is_reached links from)
    by (inl held) = held
    by (inr many) =
        absurd (omega (arith, many, length-filter (λ (link : ℕ × ℕ). is_near links from (suc (length links)) link.1) links, count_by-le-length (λ (link : ℕ × ℕ). is_near links from (suc (length links)) link.1) links))
