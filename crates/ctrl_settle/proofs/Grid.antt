-- The nearest value of the grid exists and is the only one, and dividing finds it.
use Rattle.std.proofs.Common.{◌≡◌, ℕ, zero, suc, ◌+◌, ◌-◌, ◌*◌, ◌/◌, ◌%◌, ◌<◌, ◌≤◌, ℤ, ◌≤ℤ◌, ◌<ℤ◌, refl, arith, inl, inr, ◌⊎◌, ⊎_elim, ◌∙◌, subst, int_le, nat_lt, if◌then◌else◌}
use Rattle.std.proofs.lemmas.Bool.{ltb-true, ltb-false, cond_both, cases_lt}
use Rattle.std.proofs.Math.Nat.{mul-le-mul_right, le-div_iff_mul-le, div-mul-le_self}
use Rattle.std.proofs.lemmas.Int.{ints}
use Rattle.std.proofs.lemmas.Nat.{div-add-mod', mod_below}
use Rattle.ctrl_settle.specs.Control.{Control}
use Rattle.ctrl_settle.specs.Grid.{distance, grid_value, IsOnGrid, IsNearest, nearer, nearest_within, nearest}

-- two values of which neither is nearer are one
pub IsNearest-unique : (c : Control) (v g h : ℤ) → IsNearest c v g → IsNearest c v h → g ≡ h
IsNearest-unique c v g h p q =
    let le = p.no_nearer h q.on_grid in
    let ge = q.no_nearer g p.on_grid in
    let below = p.larger_on_tie h q.on_grid (omega arith) in
    let above = q.larger_on_tie g p.on_grid (omega arith) in
    omega (arith, ints)

-- more steps, a greater value
pub grid_value-le : (c : Control) (j k : ℕ) → j ≤ k → grid_value c j ≤ℤ grid_value c k
grid_value-le c j k h = let m : j * c.step ≤ k * c.step = mul-le-mul_right c.step h in omega (arith, ints)

-- what lies on the grid is no further above the minimum than the maximum
pub within_span : (c : Control) (k : ℕ) → grid_value c k ≤ℤ c.maximum → k * c.step ≤ distance c.maximum c.minimum
within_span c k h = omega (arith, ints)

pub steps_within_span : (c : Control) (k : ℕ) → 0 < c.step → grid_value c k ≤ℤ c.maximum → k ≤ distance c.maximum c.minimum
steps_within_span c k pos_step h =
    let m : k * 1 ≤ k * c.step = grind arith in
    omega (arith, within_span c k h)

-- the nearest among the minimum and the values up to n steps above it
record IsNearestWithin (n : ℕ) (c : Control) (v g : ℤ) : Type 0 where
  on_grid : IsOnGrid c g
  below : g ≤ℤ grid_value c n
  no_nearer : (k : ℕ) → k ≤ n → grid_value c k ≤ℤ c.maximum → distance v g ≤ distance v (grid_value c k)
  larger_on_tie : (k : ℕ) → k ≤ n → grid_value c k ≤ℤ c.maximum → distance v (grid_value c k) ≡ distance v g → grid_value c k ≤ℤ g

at_minimum : (c : Control) (v : ℤ) → c.minimum ≤ℤ c.maximum → IsNearestWithin 0 c v c.minimum
at_minimum c v h =
    let same : (k : ℕ) → k ≤ 0 → grid_value c k ≡ c.minimum = λ k le. (let z : k ≡ 0 = omega arith in rw z (omega (arith, ints))) in
    record {
      on_grid = record { steps = (0, omega (arith, ints)); within = h };
      below = omega (arith, ints);
      no_nearer = λ k le _. rw (same k le) (omega arith);
      larger_on_tie = λ k le _ _. rw (same k le) (omega (arith, ints));
    }

up_to_suc : {P : Type 0} (n k : ℕ) → k ≤ suc n → (k ≤ n → P) → (k ≡ suc n → P) → P
up_to_suc {P} n k le below last = ⊎_elim {C = P} (λ (h : k < suc n). below (omega arith)) (λ (h : suc n ≤ k). last (omega arith)) (cases_lt k (suc n))

-- one more value, above the maximum
past_maximum : (n : ℕ) (c : Control) (v g : ℤ) → c.maximum <ℤ grid_value c (suc n) → IsNearestWithin n c v g → IsNearestWithin (suc n) c v g
past_maximum n c v g past p =
    let inside : (k : ℕ) → k ≤ suc n → grid_value c k ≤ℤ c.maximum → k ≤ n =
    λ k le within. up_to_suc n k le (λ h. h) (λ e. absurd (let w = rw e at within in omega (arith, ints, past, w))) in
    record {
      on_grid = p.on_grid;
      below = omega (arith, ints, p.below, grid_value-le c n (suc n));
      no_nearer = λ k le within. p.no_nearer k (inside k le within) within;
      larger_on_tie = λ k le within. p.larger_on_tie k (inside k le within) within;
    }

-- one more value, that is further off
further : (n : ℕ) (c : Control) (v g : ℤ) → distance v g < distance v (grid_value c (suc n)) → IsNearestWithin n c v g → IsNearestWithin (suc n) c v g
further n c v g h p = record {
  on_grid = p.on_grid;
  below = omega (arith, ints, p.below, grid_value-le c n (suc n));
  no_nearer = λ k le within. up_to_suc n k le (λ below. p.no_nearer k below within) (λ e. rw e (omega arith));
  larger_on_tie = λ k le within tie. up_to_suc n k le (λ below. p.larger_on_tie k below within tie) (λ e. absurd (let t = rw e at tie in omega arith));
}

-- one more value, that is as near or nearer
no_further : (n : ℕ) (c : Control) (v g : ℤ) → grid_value c (suc n) ≤ℤ c.maximum → distance v (grid_value c (suc n)) ≤ distance v g → IsNearestWithin n c v g → IsNearestWithin (suc n) c v (grid_value c (suc n))
no_further n c v g within h p = record {
  on_grid = record { steps = (suc n, refl); within = within };
  below = omega (arith, ints);
  no_nearer = λ k le inside. up_to_suc n k le (λ below. let q = p.no_nearer k below inside in omega arith) (λ e. rw e (omega arith));
  larger_on_tie = λ k le inside tie. grid_value-le c k (suc n) le;
}

-- one more value
one_more : (n : ℕ) (c : Control) (v g : ℤ) → IsNearestWithin n c v g → IsNearestWithin (suc n) c v (if int_le (grid_value c (suc n)) c.maximum then nearer v g (grid_value c (suc n)) else g)
one_more n c v g p =
    cond_both (int_le (grid_value c (suc n)) c.maximum) (nearer v g (grid_value c (suc n))) g (λ x. IsNearestWithin (suc n) c v x)
    (λ inside. cond_both (nat_lt (distance v g) (distance v (grid_value c (suc n)))) g (grid_value c (suc n)) (λ x. IsNearestWithin (suc n) c v x)
    (λ nearer. further n c v g (ltb-true _ _ nearer) p)
    (λ other. no_further n c v g (grind (arith, ints)) (ltb-false _ _ other) p))
    (λ outside. past_maximum n c v g (grind (arith, ints)) p)

nearest_within_is : (n : ℕ) (c : Control) (v : ℤ) → c.minimum ≤ℤ c.maximum → IsNearestWithin n c v (nearest_within n c v)
unfolding nearest_within
nearest_within_is zero c v h = at_minimum c v h
nearest_within_is (suc n) c v h = one_more n c v (nearest_within n c v) (nearest_within_is n c v h)

-- a value of the grid that lies within the span of the range in steps, or is the minimum where the step is 0
by_steps : (c : Control) (g : ℤ) → IsOnGrid c g → (k : ℕ) × (k ≤ distance c.maximum c.minimum) × (g ≡ grid_value c k)
by_steps c g on =
    ⊎_elim
    (λ (none : c.step < 1). let z : c.step ≡ 0 = omega arith in (0, omega arith, on.steps.1 ∙ rw z (omega (arith, ints))))
    (λ (some : 1 ≤ c.step). (on.steps.0, steps_within_span c on.steps.0 some (subst (λ x. x ≤ℤ c.maximum) on.steps.1 on.within), on.steps.1))
    (cases_lt c.step 1)

-- `nearest` is nearest
pub IsNearest-nearest : (c : Control) (v : ℤ) → c.minimum ≤ℤ c.maximum → IsNearest c v (nearest c v)
unfolding nearest
IsNearest-nearest c v h =
    let p = nearest_within_is (distance c.maximum c.minimum) c v h in
    record {
      on_grid = p.on_grid;
      no_nearer = λ g on. let s = by_steps c g on in rw s.2 (p.no_nearer s.0 s.1 (rw s.2 at on.within));
      larger_on_tie = λ g on tie. let s = by_steps c g on in rw s.2 (p.larger_on_tie s.0 s.1 (rw s.2 at on.within) (rw s.2 at tie));
    }

-- and no other value is
pub nearest-unique : (c : Control) (v g : ℤ) → IsNearest c v g → g ≡ nearest c v
nearest-unique c v g p =
    let in_order : c.minimum ≤ℤ c.maximum = omega (arith, ints, p.on_grid.steps.1, p.on_grid.within) in
    IsNearest-unique c v g (nearest c v) p (IsNearest-nearest c v in_order)

-- a value that is nearest among those p steps above the minimum, for any p
nearest_of_places : (c : Control) (v : ℤ) (p : ℕ) → grid_value c p ≤ℤ c.maximum
    → ((k : ℕ) → grid_value c k ≤ℤ c.maximum → distance v (grid_value c p) ≤ distance v (grid_value c k))
    → ((k : ℕ) → grid_value c k ≤ℤ c.maximum → distance v (grid_value c k) ≡ distance v (grid_value c p) → grid_value c k ≤ℤ grid_value c p)
    → IsNearest c v (grid_value c p)
nearest_of_places c v p within no_nearer larger = record {
  on_grid = record { steps = (p, refl); within = within };
  no_nearer = λ g on. let e = on.steps.1 in rw e (no_nearer on.steps.0 (rw e at on.within));
  larger_on_tie = λ g on tie. let e = on.steps.1 in rw e (larger on.steps.0 (rw e at on.within) (rw e at tie));
}

-- one place or more apart is one step or more apart
places_apart : (step k below : ℕ) → (k * step ≤ below * step) ⊎ (below * step + step ≤ k * step)
places_apart step k below =
    ⊎_elim
    (λ (lower : k < below + 1). inl (mul-le-mul_right step (omega arith)))
    (λ (higher : below + 1 ≤ k). inr (let m : (below + 1) * step ≤ k * step = mul-le-mul_right step higher in omega arith))
    (cases_lt k (below + 1))

-- Below, `span` is how far the maximum lies above the minimum, and `asked` how far v does.

-- what lies at the last value of the grid or above is nearest to it
pub nearest-last : (c : Control) (v : ℤ) (span asked : ℕ) → 0 < c.step → c.minimum ≤ℤ c.maximum → c.minimum ≤ℤ v
    → span ≡ distance c.maximum c.minimum → asked ≡ distance v c.minimum
    → span / c.step ≤ asked / c.step
    → IsNearest c v (grid_value c (span / c.step))
nearest-last c v span asked stepped in_order from_minimum is_span is_asked past_last =
    let last = span / c.step in
    let at_last : last * c.step ≤ span = div-mul-le_self span c.step in
    let up : last * c.step ≤ asked / c.step * c.step = mul-le-mul_right c.step past_last in
    let to_asked : asked / c.step * c.step ≤ asked = div-mul-le_self asked c.step in
    let lower : (k : ℕ) → grid_value c k ≤ℤ c.maximum → k * c.step ≤ last * c.step =
    λ k inside. mul-le-mul_right c.step ((le-div_iff_mul-le stepped).1 (rw is_span (within_span c k inside))) in
    nearest_of_places c v last
    (omega (arith, ints))
    (λ k inside. omega (arith, ints, lower k inside))
    (λ k inside tie. omega (arith, ints, lower k inside))

-- what lies less than half a step above a value is nearest to it
pub nearest-below : (c : Control) (v : ℤ) (span asked : ℕ) → 0 < c.step → c.minimum ≤ℤ c.maximum → c.minimum ≤ℤ v
    → span ≡ distance c.maximum c.minimum → asked ≡ distance v c.minimum
    → asked / c.step < span / c.step
    → asked % c.step < c.step - asked % c.step
    → IsNearest c v (grid_value c (asked / c.step))
nearest-below c v span asked stepped in_order from_minimum is_span is_asked before_last small =
    let below = asked / c.step in
    let last = span / c.step in
    let at_last : last * c.step ≤ span = div-mul-le_self span c.step in
    let up : below * c.step ≤ last * c.step = mul-le-mul_right c.step (omega arith) in
    let parts : below * c.step + asked % c.step ≡ asked = div-add-mod' asked c.step in
    nearest_of_places c v below
    (omega (arith, ints))
    (λ k inside. ⊎_elim {C = distance v (grid_value c below) ≤ distance v (grid_value c k)} (λ lower. omega (arith, ints)) (λ higher. omega (arith, ints)) (places_apart c.step k below))
    (λ k inside tie. ⊎_elim {C = grid_value c k ≤ℤ grid_value c below} (λ lower. omega (arith, ints)) (λ higher. absurd (omega (arith, ints))) (places_apart c.step k below))

-- what lies half a step or more above a value is nearest to the next
pub nearest-above : (c : Control) (v : ℤ) (span asked : ℕ) → 0 < c.step → c.minimum ≤ℤ c.maximum → c.minimum ≤ℤ v
    → span ≡ distance c.maximum c.minimum → asked ≡ distance v c.minimum
    → asked / c.step < span / c.step
    → c.step - asked % c.step ≤ asked % c.step
    → IsNearest c v (grid_value c (asked / c.step + 1))
nearest-above c v span asked stepped in_order from_minimum is_span is_asked before_last large =
    let below = asked / c.step in
    let last = span / c.step in
    let at_last : last * c.step ≤ span = div-mul-le_self span c.step in
    let up : (below + 1) * c.step ≤ last * c.step = mul-le-mul_right c.step (omega arith) in
    let next : (below + 1) * c.step ≡ below * c.step + c.step = omega arith in
    let parts : below * c.step + asked % c.step ≡ asked = div-add-mod' asked c.step in
    let rest : asked % c.step < c.step = mod_below asked c.step stepped in
    nearest_of_places c v (below + 1)
    (omega (arith, ints))
    (λ k inside. ⊎_elim {C = distance v (grid_value c (below + 1)) ≤ distance v (grid_value c k)} (λ lower. omega (arith, ints)) (λ higher. omega (arith, ints)) (places_apart c.step k below))
    (λ k inside tie. ⊎_elim {C = grid_value c k ≤ℤ grid_value c (below + 1)} (λ lower. omega (arith, ints)) (λ higher. omega (arith, ints)) (places_apart c.step k below))
