-- Nothing is wrong with a control that has its range of the moment.
use Rattle.std.proofs.Common.{◌≡◌, ◌≢◌, ℕ, ℤ, ◌<◌, ◌≤◌, Bool, true, false, if◌then◌else◌, List, [], ◌∷◌, length, Option, None, Some, nat_eq, nat_le, inl, inr, ◌⊎◌, refl, sym, subst, arith}
use Rattle.std.specs.Option.{option_map}
use Rattle.std.proofs.lemmas.Bool.{cases_lt}
use Rattle.std.proofs.lemmas.Bool.Decides.{eqb_tells, nat_tests}
use Rattle.std.proofs.lemmas.List.{get_or-set_other, get_or-set_same, get_or_past}
use Rattle.std.proofs.lemmas.List.Elements.{All-get_or}
use Rattle.ctrl_types.specs.declared.check.Check.{Check}
use Rattle.ctrl_types.specs.declared.check.Check.TheVariants.{ControlMissing}
use Rattle.ctrl_calls.specs.Meanings.{Verdicts}
use Rattle.ctrl_settle.specs.Control.{Control}
use Rattle.ctrl_settle.specs.Faults.{IsWellFormed, range_check_of}
use Rattle.ctrl_settle.specs.FirstFault.{first_fault}
use Rattle.ctrl_settle.specs.declared.fault.CtrlFault.{CtrlFault}
use Rattle.ctrl_settle.proofs.WellFormed.{IsWellFormed-test, well_formed_where_none}
use Rattle.ctrl_handlers.specs.Plan.{IsPlan, PlanData, control_in, no_control}
use Rattle.ctrl_clusters.specs.Ranges.{modified}
use Rattle.device_history.specs.declared.ask.Reply.{Reply}
use Rattle.device_history.specs.declared.ask.Step.{Step}
use Rattle.device_history.specs.declared.ask.Step.TheVariants as steps
use Rattle.device_history.specs.Legal.{IsLegal, MayFollow}
use Rattle.device_history.specs.Ranges.{control_with_range, ranges_after, ranges_now}
use Rattle.device_history.specs.Refusals.{fault_of, stepped}
use Rattle.device_history.specs.Steps.{Past}
use Rattle.device_history.proofs.AskingLemmas.{may_decided}
use Rattle.device_history.proofs.RangeLemmas.{ranges_more, ranges_own, ranges_start}
use Rattle.taken_values.proofs.RowLemmas.{AreSound}

-- an ask that isn't refused has no check that refuses it
unchecked : (check : Option Check) (past : Past) (reply : Reply) → fault_of (stepped check past reply) ≡ None → check ≡ None
unchecked None past reply h = refl
unchecked (Some check) past reply h = absurd (cc)

-- what no check refuses
passed : (a : Bool) (fault : Option CtrlFault) → (if a then Some ControlMissing else option_map range_check_of fault) ≡ None → (a ≡ false) × (fault ≡ None)
passed true fault h = absurd (cc)
passed false None h = (refl, refl)
passed false (Some fault) h = absurd (cc)

-- what a range change that may follow finds: its control, with which nothing is wrong in the new range
pub range_fits : (verdicts : Verdicts) (plan : PlanData) (older : Past) (c : ℕ) (low high : ℤ) (apart : ℕ) (default_value : ℤ) → MayFollow verdicts plan older (steps.ModifyRange c low high apart default_value)
    → (c < length plan.controls) × IsWellFormed (control_with_range (ranges_now plan older) c low high apart default_value)
range_fits verdicts plan older c low high apart default_value may =
    let changed = control_with_range (ranges_now plan older) c low high apart default_value in
    let none = unchecked _ older _ (may_decided verdicts plan older (steps.ModifyRange c low high apart default_value) may).0 in
    let parts = passed (nat_le (length plan.controls) c) (first_fault changed) none in
    (below c (length plan.controls) parts.0, well_formed_where_none changed parts.1)
  where
    below : (a b : ℕ) → nat_le b a ≡ false → a < b
    below a b h = grind (arith, nat_tests, h)

-- at first nothing is wrong with a control
sound_start : (plan : PlanData) → IsPlan plan → AreSound plan.controls
sound_start plan is c = by (cases_lt c (length plan.controls))
  where
    by : (c < length plan.controls) ⊎ (length plan.controls ≤ c) → IsWellFormed (control_in plan.controls c)
    by (inl lt) = All-get_or IsWellFormed plan.controls c no_control lt is.well_formed
    by (inr past) = subst IsWellFormed (sym (get_or_past plan.controls c no_control past)) (IsWellFormed-test no_control refl)

-- nor where one has another range
sound_set : (controls : List Control) (c : ℕ) (changed : Control) → c < length controls → IsWellFormed changed → AreSound controls → AreSound (modified controls c changed)
sound_set controls c changed lt well sound d = by (eqb_tells d c)
  where
    by : (nat_eq d c ≡ true × (d ≡ c)) ⊎ (nat_eq d c ≡ false × (d ≢ c)) → IsWellFormed (control_in (modified controls c changed) d)
    by (inl is) = subst (λ i. IsWellFormed (control_in (modified controls c changed) i)) (sym is.1) (subst IsWellFormed (sym (get_or-set_same controls c changed no_control lt)) well)
    by (inr is) = subst IsWellFormed (sym (get_or-set_other controls c d changed no_control is.1)) (sound d)

-- nor behind a step that may follow
sound_after : (verdicts : Verdicts) (plan : PlanData) (older : Past) (step : Step) → MayFollow verdicts plan older step → AreSound (ranges_now plan older) → AreSound (ranges_after step (ranges_now plan older))
sound_after verdicts plan older (steps.ModifyRange c low high apart default_value) may sound =
    let fits = range_fits verdicts plan older c low high apart default_value may in
    sound_set (ranges_now plan older) c (control_with_range (ranges_now plan older) c low high apart default_value) (subst (λ n. c < n) (sym (ranges_own plan older).many) fits.0) fits.1 sound
sound_after verdicts plan older _ may sound = sound

-- nor after any legal history
pub sound_now : (verdicts : Verdicts) (plan : PlanData) (older : Past) → IsPlan plan → IsLegal verdicts plan older → AreSound (ranges_now plan older)
unfolding IsLegal
sound_now verdicts plan [] is legal = subst AreSound (sym (ranges_start plan)) (sound_start plan is)
sound_now verdicts plan (e ∷ older) is legal = subst AreSound (sym (ranges_more plan e older)) (sound_after verdicts plan older e.step legal.1 (sound_now verdicts plan older is legal.0))
