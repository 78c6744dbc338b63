-- What is reached by links has the number to begin with and all that a link leads to from it, and nothing that doesn't have to be there.
use Rattle.std.proofs.Common.{◌≡◌, ◌∙◌, ◌<◌, ◌≤◌, ◌+◌, ◌⊎◌, ℕ, zero, suc, Bool, true, false, not, ◌&&◌, ◌||◌, List, [], ◌∷◌, filter, length, nat_eq, inl, inr, refl, sym, ap, subst, arith}
use Rattle.std.specs.List.{Any, list_any, range_with_len}
use Rattle.std.proofs.lemmas.Bool.{and_parts, and_from, or_cases, or_left, or_right, cases_Bool, eqb-true, eq-eqb, true≢false, not_from_false}
use Rattle.std.proofs.lemmas.List.Folds.{Any-from_list_any, list_any-from_Any}
use Rattle.reach_table.specs.Reached.{is_led_to, is_near, is_reached, others_reached, AreBelow}
use Rattle.reach_table.proofs.CountLemmas.{counted_other, each_counted, none_passes}

-- from more is led to more
led_more : (links : List (ℕ × ℕ)) (these those : ℕ → Bool) (n : ℕ) → ((k : ℕ) → these k ≡ true → those k ≡ true) → is_led_to links these n ≡ true → is_led_to links those n ≡ true
led_more links these those n more led =
    let found = Any-from_list_any (λ link. these link.0 && nat_eq link.1 n) links led in
    let parts = and_parts (these found.1.0) (nat_eq found.1.1 n) found.4 in
    list_any-from_Any (λ link. those link.0 && nat_eq link.1 n) links
    (found.0, found.1, found.2, found.3, and_from (those found.1.0) (nat_eq found.1.1 n) (more found.1.0 parts.0) parts.1)

-- what is near by some links is by one more
near_more : (links : List (ℕ × ℕ)) (from most n : ℕ) → is_near links from most n ≡ true → is_near links from (suc most) n ≡ true
unfolding is_near
near_more links from most n near = or_left (is_near links from most n) (is_led_to links (is_near links from most) n) near

-- and so is what a link leads to
near_led : (links : List (ℕ × ℕ)) (from most n : ℕ) → is_led_to links (is_near links from most) n ≡ true → is_near links from (suc most) n ≡ true
unfolding is_near
near_led links from most n led = or_right (is_near links from most n) (is_led_to links (is_near links from most) n) led

-- and nothing else
near_cases : (links : List (ℕ × ℕ)) (from most n : ℕ) → is_near links from (suc most) n ≡ true → (is_near links from most n ≡ true) ⊎ (is_led_to links (is_near links from most) n ≡ true)
unfolding is_near
near_cases links from most n near = or_cases (is_near links from most n) (is_led_to links (is_near links from most) n) near

-- so with one link more is near what was, and what a link leads to from that
pub near_next : (links : List (ℕ × ℕ)) (from most n : ℕ) → is_near links from (most + 1) n ≡ (is_near links from most n || is_led_to links (is_near links from most) n)
unfolding is_near
near_next links from most n =
    let next : most + 1 ≡ suc most = omega arith in
    ap (λ m. is_near links from m n) next

-- numbers that links don't name don't count
pub led_same : (count : ℕ) (links : List (ℕ × ℕ)) (these those : ℕ → Bool) (n : ℕ) → AreBelow count links → ((k : ℕ) → k < count → these k ≡ those k)
    → is_led_to links these n ≡ is_led_to links those n
led_same count [] these those n below same = refl
led_same count (link ∷ links) these those n below same =
    ap (λ b. (b && nat_eq link.1 n) || is_led_to links these n) (same link.0 (below 0 link (omega arith)).0)
    ∙ ap (λ b. (those link.0 && nat_eq link.1 n) || b) (led_same count links these those n (λ k d lt. below (suc k) d (omega (arith, lt))) same)

-- a number is near itself
pub near_itself : (links : List (ℕ × ℕ)) (from most : ℕ) → is_near links from most from ≡ true
unfolding is_near
near_itself links from zero = eq-eqb from from refl
near_itself links from (suc most) = near_more links from most from (near_itself links from most)

-- what holds of it, and of all that a link leads to from where it holds, holds of all that is near
pub near_least : (links : List (ℕ × ℕ)) (from : ℕ) (holds : ℕ → Bool) → holds from ≡ true → ((n : ℕ) → is_led_to links holds n ≡ true → holds n ≡ true)
    → (most n : ℕ) → is_near links from most n ≡ true → holds n ≡ true
unfolding is_near
near_least links from holds first on zero n near = subst (λ k. holds k ≡ true) (eqb-true from n near) first
near_least links from holds first on (suc most) n near = by (near_least links from holds first on most) (near_cases links from most n near)
  where
    by : ((k : ℕ) → is_near links from most k ≡ true → holds k ≡ true) → (is_near links from most n ≡ true) ⊎ (is_led_to links (is_near links from most) n ≡ true) → holds n ≡ true
    by nearer (inl near) = nearer n near
    by nearer (inr led) = on n (led_more links (is_near links from most) holds n nearer led)

-- all that a link leads to from these is among them
abbrev IsClosed : List (ℕ × ℕ) → (ℕ → Bool) → Type 0
IsClosed links these = (n : ℕ) → is_led_to links these n ≡ true → these n ≡ true

-- once nothing more is led to, nothing more is
closed_next : (links : List (ℕ × ℕ)) (from most : ℕ) → IsClosed links (is_near links from most) → IsClosed links (is_near links from (suc most))
closed_next links from most closed n led =
    near_more links from most n (closed n (led_more links (is_near links from (suc most)) (is_near links from most) n (λ k near. back k (near_cases links from most k near)) led))
  where
    back : (k : ℕ) → (is_near links from most k ≡ true) ⊎ (is_led_to links (is_near links from most) k ≡ true) → is_near links from most k ≡ true
    back k (inl near) = near
    back k (inr led) = closed k led

-- so many links lead to what is near
abbrev leading : List (ℕ × ℕ) → ℕ → ℕ → ℕ
leading links from most = length (filter (λ link. is_near links from most link.1) links)

-- nothing more is led to, where no link leads to what wasn't near by one link less
closed_where : (links : List (ℕ × ℕ)) (from most : ℕ) → list_any (λ link. is_near links from (suc most) link.1 && not (is_near links from most link.1)) links ≡ false
    → IsClosed links (is_near links from most)
closed_where links from most none n led = by (cases_Bool (is_near links from most n))
  where
    found : Any (λ link. (is_near links from most link.0 && nat_eq link.1 n) ≡ true) links
    found = Any-from_list_any (λ link. is_near links from most link.0 && nat_eq link.1 n) links led

    end : found.1.1 ≡ n
    end = eqb-true found.1.1 n (and_parts (is_near links from most found.1.0) (nat_eq found.1.1 n) found.4).1

    by : (is_near links from most n ≡ true) ⊎ (is_near links from most n ≡ false) → is_near links from most n ≡ true
    by (inl near) = near
    by (inr far) =
        let passes : (is_near links from (suc most) found.1.1 && not (is_near links from most found.1.1)) ≡ true =
        subst (λ k. (is_near links from (suc most) k && not (is_near links from most k)) ≡ true) (sym end)
        (and_from (is_near links from (suc most) n) (not (is_near links from most n)) (near_led links from most n led) (not_from_false (is_near links from most n) far)) in
        absurd (true≢false (sym (list_any-from_Any (λ link. is_near links from (suc most) link.1 && not (is_near links from most link.1)) links (found.0, found.1, found.2, found.3, passes)) ∙ none))

-- With each link more something more is near, or nothing more is led to.
closed_or : (links : List (ℕ × ℕ)) (from most : ℕ) → IsClosed links (is_near links from most) ⊎ (most ≤ leading links from most)
closed_or links from zero = inr (omega arith)
closed_or links from (suc most) =
    by (closed_or links from most) (cases_Bool (list_any (λ link. is_near links from (suc most) link.1 && not (is_near links from most link.1)) links))
  where
    by : IsClosed links (is_near links from most) ⊎ (most ≤ leading links from most)
        → (list_any (λ link. is_near links from (suc most) link.1 && not (is_near links from most link.1)) links ≡ true)
        ⊎ (list_any (λ link. is_near links from (suc most) link.1 && not (is_near links from most link.1)) links ≡ false)
        → IsClosed links (is_near links from (suc most)) ⊎ (suc most ≤ leading links from (suc most))
    by (inl closed) either = inl (closed_next links from most closed)
    by (inr many) (inl some) =
        inr (omega (arith, many, counted_other (λ link. is_near links from most link.1) (λ link. is_near links from (suc most) link.1) (λ link. near_more links from most link.1) links some))
    by (inr many) (inr none) = inl (closed_next links from most (closed_where links from most none))

-- what a link leads to from what is reached is reached
pub reached_on : (links : List (ℕ × ℕ)) (from n : ℕ) → is_led_to links (is_reached links from) n ≡ true → is_reached links from n ≡ true
reached_on links from n led = by (closed_or links from (length links))
  where
    found : Any (λ link. (is_reached links from link.0 && nat_eq link.1 n) ≡ true) links
    found = Any-from_list_any (λ link. is_reached links from link.0 && nat_eq link.1 n) links led

    by : IsClosed links (is_reached links from) ⊎ (length links ≤ leading links from (length links)) → is_reached links from n ≡ true
    by (inl closed) = closed n led
    by (inr many) =
        subst (λ k. is_reached links from k ≡ true) (eqb-true found.1.1 n (and_parts (is_reached links from found.1.0) (nat_eq found.1.1 n) found.4).1)
        (subst (λ (link : ℕ × ℕ). is_reached links from link.1 ≡ true) found.3 (each_counted (λ link. is_reached links from link.1) links many found.0 found.1 found.2))

-- without links a number alone is reached from itself
pub no_others : (count from : ℕ) → others_reached count [] from ≡ []
unfolding is_near
no_others count from = none_passes (λ n. nat_eq from n && not (nat_eq from n)) (λ n. neither (nat_eq from n)) (range_with_len 0 count)
  where
    neither : (b : Bool) → (b && not b) ≡ false
    neither true = refl
    neither false = refl

-- a list of no length has nothing
pub no_links : (links : List (ℕ × ℕ)) → nat_eq (length links) 0 ≡ true → links ≡ []
no_links [] none = refl
no_links (link ∷ links) none = absurd (omega (arith, eqb-true (suc (length links)) 0 none))
