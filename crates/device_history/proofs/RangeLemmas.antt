-- The ranges of controls after a history: before the first entry, after one more, and that they are of the plan's controls.
use Rattle.std.proofs.Common.{◌≡◌, ◌≢◌, ℕ, ◌<◌, Bool, true, false, List, [], ◌∷◌, length, map, Option, None, Some, nat_eq, get_or, refl, ap, sym, subst, ◌∙◌, arith}
use Rattle.std.specs.List.{range_with_len}
use Rattle.std.specs.Map.{lookup}
use Rattle.std.proofs.lemmas.Bool.Decides.{nat_tests}
use Rattle.std.proofs.lemmas.List.{ext_get_or, get_or-set_other, get_or-set_same, length-set}
use Rattle.std.proofs.lemmas.List.FromFn.{get_or-map-range_with_len, length-map-range_with_len}
use Rattle.history.specs.declared.entry.Entry.{Entry}
use Rattle.history.specs.Past.{past}
use Rattle.ctrl_settle.specs.Control.{Control, with_range}
use Rattle.ctrl_handlers.specs.Plan.{PlanData, control, control_in, no_control}
use Rattle.ctrl_clusters.specs.Ranges.{modified}
use Rattle.ctrl_clusters.specs.Rows.{AreControlsOf}
use Rattle.ctrl_clusters.proofs.RangeLemmas.{modified_stay}
use Rattle.device_history.specs.declared.ask.Step.{Step}
use Rattle.device_history.specs.declared.ask.Step.TheVariants as steps
use Rattle.device_history.specs.Steps.{Past}
use Rattle.device_history.specs.Ranges.{RangeData, control_now, ranged, ranged_if_given, ranges_after, ranges_made, ranges_now}

-- a control with the range that the first of some range changes gives it
abbrev given : PlanData → List (ℕ × RangeData) → ℕ → Control
given plan made d = ranged_if_given (control plan d) (lookup (nat_eq d) made)

-- the controls with these ranges
abbrev all_given : PlanData → List (ℕ × RangeData) → List Control
all_given plan made = map (given plan made) (range_with_len 0 (length plan.controls))

given_at : (plan : PlanData) (made : List (ℕ × RangeData)) (c : ℕ) → c < length plan.controls → control_in (all_given plan made) c ≡ given plan made c
given_at plan made c lt = get_or-map-range_with_len (given plan made) 0 (length plan.controls) c c no_control lt (omega arith)

length_given : (plan : PlanData) (made : List (ℕ × RangeData)) → length (all_given plan made) ≡ length plan.controls
length_given plan made = length-map-range_with_len (given plan made) 0 (length plan.controls)

-- the control with a number
pub control_at_now : (plan : PlanData) (past : Past) (c : ℕ) → c < length plan.controls → control_in (ranges_now plan past) c ≡ control_now plan past c
unfolding ranges_now
control_at_now plan past c lt = given_at plan (ranges_made past) c lt

-- before the first step they are the plan's
pub ranges_start : (plan : PlanData) → ranges_now plan (past []) ≡ plan.controls
unfolding ranges_now ranges_made
ranges_start plan =
    ext_get_or no_control (all_given plan []) plan.controls (length_given plan [])
    (λ i lt. given_at plan [] i (subst (λ (n : ℕ). i < n) (length_given plan []) lt))

-- a later range takes the place of an earlier one
ranged_twice : (ctrl : Control) (o : Option RangeData) (r : RangeData) → ranged (ranged_if_given ctrl o) r ≡ ranged ctrl r
ranged_twice ctrl None r = refl
ranged_twice ctrl (Some earlier) r = refl

-- one more range change of a control
one_ranged : (plan : PlanData) (made : List (ℕ × RangeData)) (c : ℕ) (r : RangeData) → all_given plan ((c, r) ∷ made) ≡ modified (all_given plan made) c (ranged (control_in (all_given plan made) c) r)
one_ranged plan made c r =
    ext_get_or no_control (all_given plan ((c, r) ∷ made)) (modified (all_given plan made) c changed)
    (length_given plan ((c, r) ∷ made) ∙ sym (length-set (all_given plan made) c changed ∙ length_given plan made))
    (λ i lt. at i (subst (λ (n : ℕ). i < n) (length_given plan ((c, r) ∷ made)) lt))
  where
    changed : Control
    changed = ranged (control_in (all_given plan made) c) r

    at : (i : ℕ) → i < length plan.controls → get_or (all_given plan ((c, r) ∷ made)) i no_control ≡ get_or (modified (all_given plan made) c changed) i no_control
    at i lt = given_at plan ((c, r) ∷ made) i lt ∙ by (nat_eq i c) refl
      where
        by : (b : Bool) → nat_eq i c ≡ b → given plan ((c, r) ∷ made) i ≡ get_or (modified (all_given plan made) c changed) i no_control
        by true same =
            let is : i ≡ c = grind (arith, nat_tests, same) in
            let known : c < length plan.controls = subst (λ (k : ℕ). k < length plan.controls) is lt in
            let within : c < length (all_given plan made) = subst (λ (n : ℕ). c < n) (sym (length_given plan made)) known in
            let new : given plan ((c, r) ∷ made) i ≡ ranged (control plan i) r = rw same refl in
            new ∙ ap (λ (k : ℕ). ranged (control plan k) r) is ∙ sym (ranged_twice (control plan c) (lookup (nat_eq c) made) r) ∙ ap (λ (x : Control). ranged x r) (sym (given_at plan made c known))
            ∙ sym (ap (λ (k : ℕ). get_or (modified (all_given plan made) c changed) k no_control) is ∙ get_or-set_same (all_given plan made) c changed no_control within)
        by false other =
            let apart : i ≢ c = grind (arith, nat_tests, other) in
            let old : given plan ((c, r) ∷ made) i ≡ given plan made i = rw other refl in
            old ∙ sym (get_or-set_other (all_given plan made) c i changed no_control apart ∙ given_at plan made i lt)

-- after one more entry
pub ranges_more : (plan : PlanData) (e : Entry Step) (older : Past) → ranges_now plan (e ∷ older) ≡ ranges_after e.step (ranges_now plan older)
unfolding ranges_now ranges_made
ranges_more plan e older = by e.step refl
  where
    by : (step : Step) → e.step ≡ step → ranges_now plan (e ∷ older) ≡ ranges_after step (ranges_now plan older)
    by (steps.ModifyRange c low high apart default_value) is =
        rw is (one_ranged plan (ranges_made older) c (record { minimum = low; maximum = high; step = apart; default_value = default_value }))
    by _ is = rw is refl

-- a step leaves them controls of their plan
after_own : (plan : PlanData) (step : Step) (controls : List Control) → AreControlsOf plan controls → AreControlsOf plan (ranges_after step controls)
after_own plan (steps.ModifyRange c low high apart default_value) controls own =
    modified_stay controls c (with_range (control_in controls c) low high apart default_value) (record { id = refl; kind = refl; flags = refl; skip = refl; elems = refl }) plan own
after_own plan _ controls own = own

-- they are of the plan's controls
pub ranges_own : (plan : PlanData) (past : Past) → AreControlsOf plan (ranges_now plan past)
ranges_own plan [] = subst (AreControlsOf plan) (sym (ranges_start plan)) (record { many = refl; ids = refl; kinds = refl; flags = refl; skipped = refl; elems = refl })
ranges_own plan (e ∷ older) = subst (AreControlsOf plan) (sym (ranges_more plan e older)) (after_own plan e.step (ranges_now plan older) (ranges_own plan older))
