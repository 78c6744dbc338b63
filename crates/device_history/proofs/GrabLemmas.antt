-- The grabs before the first entry, and after one more.
use Rattle.std.proofs.Common.{◌≡◌, ◌≢◌, ℕ, zero, suc, ◌<◌, ◌+◌, Bool, false, true, List, [], ◌∷◌, ◌++◌, length, map, slice_set, nat_eq, unwrap_or, refl, ap, subst, arith}
use Rattle.std.specs.List.{range_with_len}
use Rattle.std.specs.Map.{lookup}
use Rattle.std.proofs.lemmas.Bool.Decides.{nat_tests}
use Rattle.history.specs.declared.entry.Entry.{Entry}
use Rattle.history.specs.Past.{past}
use Rattle.history.proofs.Pasts.{past_add}
use Rattle.ctrl_settle.specs.Control.{Control}
use Rattle.ctrl_handlers.specs.Plan.{PlanData}
use Rattle.device_history.specs.declared.ask.Step.{Step}
use Rattle.device_history.specs.declared.ask.Step.TheVariants as steps
use Rattle.device_history.specs.Steps.{History, Past}
use Rattle.device_history.specs.Grabs.{grabs_made, grabbed, grabbed_after}

none_held : (a : ℕ) (controls : List Control) → map (λ c. false) (range_with_len a (length controls)) ≡ map (λ _. false) controls
none_held a [] = refl
none_held a (c ∷ controls) = ap (λ (l : List Bool). false ∷ l) (none_held (a + 1) controls)

-- before the first entry
pub grabbed_start : (plan : PlanData) → grabbed plan (past []) ≡ map (λ _. false) plan.controls
unfolding grabbed grabs_made
grabbed_start plan = none_held 0 plan.controls

-- what agrees on all numbers but one agrees above it
same_above : (f g : ℕ → Bool) (k a n : ℕ) → k < a → ((d : ℕ) → d ≢ k → g d ≡ f d) → map g (range_with_len a n) ≡ map f (range_with_len a n)
same_above f g k a zero lt same = refl
same_above f g k a (suc n) lt same =
    let first : g a ≡ f a = same a (λ e. absurd (omega (arith, lt, e))) in
    rw (first, same_above f g k (a + 1) n (omega (arith, lt)) same) refl

-- what differs at one number alone is set there
set_in : (f g : ℕ → Bool) (k : ℕ) (on : Bool) (c a n : ℕ) → k ≡ a + c → g k ≡ on → ((d : ℕ) → d ≢ k → g d ≡ f d) → map g (range_with_len a n) ≡ slice_set (map f (range_with_len a n)) c on
set_in f g k on c a zero is own same = refl
set_in f g k on zero a (suc n) is own same =
    let at : k ≡ a = omega (arith, is) in
    let first : g a ≡ on = subst (λ (i : ℕ). g i ≡ on) at own in
    rw (first, same_above f g k (a + 1) n (omega (arith, is)) same) refl
set_in f g k on (suc c) a (suc n) is own same =
    let first : g a ≡ f a = same a (λ e. absurd (omega (arith, is, e))) in
    rw (first, set_in f g k on c (a + 1) n (omega (arith, is)) own same) refl

-- one more grab of a control
one_held : (made : List (ℕ × Bool)) (c : ℕ) (on : Bool) (n : ℕ)
    → map (λ d. unwrap_or (lookup (nat_eq d) ((c, on) ∷ made)) false) (range_with_len 0 n) ≡ slice_set (map (λ d. unwrap_or (lookup (nat_eq d) made) false) (range_with_len 0 n)) c on
one_held made c on n = set_in (held made) (held ((c, on) ∷ made)) c on c 0 n (omega arith) own others
  where
    held : List (ℕ × Bool) → ℕ → Bool
    held l d = unwrap_or (lookup (nat_eq d) l) false

    own : held ((c, on) ∷ made) c ≡ on
    own = let same : nat_eq c c ≡ true = grind (arith, nat_tests) in rw same refl

    others : (d : ℕ) → d ≢ c → held ((c, on) ∷ made) d ≡ held made d
    others d other = let differ : nat_eq d c ≡ false = grind (arith, nat_tests, other) in rw differ refl

-- after one more entry
pub grabbed_more : (plan : PlanData) (e : Entry Step) (older : Past) → grabbed plan (e ∷ older) ≡ grabbed_after e.step (grabbed plan older)
unfolding grabbed grabs_made
grabbed_more plan e older = by e.step refl
  where
    by : (step : Step) → e.step ≡ step → grabbed plan (e ∷ older) ≡ grabbed_after step (grabbed plan older)
    by (steps.Grab c on) is = rw is (one_held (grabs_made older) c on (length plan.controls))
    by _ is = rw is refl

pub grabbed_add : (plan : PlanData) (steps : History) (e : Entry Step) → grabbed plan (past (steps ++ e ∷ [])) ≡ grabbed_after e.step (grabbed plan (past steps))
grabbed_add plan steps e = rw (past_add steps e) (grabbed_more plan e (past steps))
