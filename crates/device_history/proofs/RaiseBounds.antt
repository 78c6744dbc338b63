-- How many events the steps can raise for a file handle.
use Rattle.std.proofs.Common.{arith, ◌≡◌, ◌≤◌, ◌+◌, ◌*◌, mul-suc, ℕ, suc, Bool, true, false, cond, List, [], ◌∷◌, filter_map, length, length-append, Option, None, Some, nat_eq, refl, ap}
use Rattle.std.proofs.lemmas.List.FromFn.{length-range_with_len}
use Rattle.std.specs.List.{cons_option, range_with_len}
use Rattle.std.specs.Option.{option_map}
use Rattle.history.specs.Past.{past}
use Rattle.ctrl_types.specs.declared.changes.Changes.{Changes}
use Rattle.ctrl_types.specs.declared.ids.FhId.{FhId}
use Rattle.ctrl_calls.specs.Meanings.{Verdicts}
use Rattle.ctrl_events.specs.declared.event.Payload.{Payload}
use Rattle.ctrl_events.specs.Pending.{Happening, withdrawn, raise, raises as raises_in}
use Rattle.ctrl_handlers.specs.Plan.{PlanData, control}
use Rattle.device_history.specs.declared.ask.Step.{Step}
use Rattle.device_history.specs.declared.ask.Step.TheVariants as steps
use Rattle.device_history.specs.Steps.{Past}
use Rattle.device_history.specs.Events.{happened, next_sequence, payload, raises, raised_for, all_raised_for, with_withdrawn, with_raises}
use Rattle.device_history.proofs.SubscriptionLemmas.{is_open}

-- picks are at most as many as there are to pick from
picked_few : {Y : Type 0} (g : ℕ → Option Y) (cs : List ℕ) → length (filter_map g cs) ≤ length cs
picked_few g [] = omega arith
picked_few {Y = Y} g (c ∷ cs) = by (g c) (filter_map g cs) (picked_few g cs)
  where
    by : (o : Option Y) (ys : List Y) → length ys ≤ length cs → length (cons_option o ys) ≤ suc (length cs)
    by None ys few = omega (arith, few)
    by (Some y) ys few = omega (arith, few)

-- a step raises at most one event for each control
raises_few : (told : ℕ → Payload) (rs : List (ℕ × Changes)) (hs : List Happening) → length (raises_in (with_raises told rs hs)) ≤ length (raises_in hs) + length rs
unfolding with_raises raises_in
raises_few told [] hs = omega arith
raises_few told (r ∷ rs) hs =
    let rest = raises_few told rs (raise (record { control = r.0; changes = r.1; payload = told r.0; sequence = length (raises_in hs) }) ∷ hs) in
    let one = length-append (raises_in hs) (record { control = r.0; changes = r.1; payload = told r.0; sequence = length (raises_in hs) } ∷ []) in
    omega (arith, rest, one)

-- what is taken or ended leaves the raises
pub raises_gone : (fh : FhId) (step : Step) (hs : List Happening) → raises_in (with_withdrawn fh step hs) ≡ raises_in hs
unfolding raises_in
raises_gone fh (steps.Unsubscribe f (Some c)) hs = by (nat_eq f.0 fh.0)
  where
    by : (b : Bool) → raises_in (cond b (withdrawn c ∷ hs) hs) ≡ raises_in hs
    by true = refl
    by false = refl
raises_gone fh (steps.Unsubscribe f None) hs = by (nat_eq f.0 fh.0)
  where
    by : (b : Bool) → raises_in (cond b hs hs) ≡ raises_in hs
    by true = refl
    by false = refl
raises_gone fh (steps.Take f c) hs = by (nat_eq f.0 fh.0)
  where
    by : (b : Bool) → raises_in (cond b (withdrawn c ∷ hs) hs) ≡ raises_in hs
    by true = refl
    by false = refl
raises_gone fh _ hs = refl

-- for a file handle at most as many events were raised as each step can raise
raised_bound : (verdicts : Verdicts) (plan : PlanData) (past : Past) (fh : FhId) → length (raises verdicts plan past fh) ≤ length plan.controls * length past
unfolding happened raises_in
raised_bound verdicts plan [] fh = omega arith
raised_bound verdicts plan (e ∷ older) fh =
    let before = raised_bound verdicts plan older fh in
    let more = raises_few (payload verdicts plan (e ∷ older)) (all_raised_for verdicts plan e older fh) (with_withdrawn fh e.step (happened verdicts plan older fh)) in
    let same : length (raises_in (with_withdrawn fh e.step (happened verdicts plan older fh))) ≡ length (raises_in (happened verdicts plan older fh)) = ap length (raises_gone fh e.step (happened verdicts plan older fh)) in
    let few = picked_few (λ c. option_map {U = ℕ × Changes} (λ change. (c, change)) (raised_for verdicts plan e older fh c)) (range_with_len 0 (length plan.controls)) in
    let all = length-range_with_len 0 (length plan.controls) in
    let next : length plan.controls * suc (length older) ≡ length plan.controls * length older + length plan.controls = mul-suc (length plan.controls) (length older) in
    omega (arith, before, more, same, few, all, next)

-- The number of the next raise is at most the number of controls for each step.
pub next_bound : (verdicts : Verdicts) (plan : PlanData) (past : Past) (fh : FhId) → next_sequence verdicts plan past fh ≤ length plan.controls * length past
next_bound verdicts plan past fh = by (is_open past fh) (raised_bound verdicts plan past fh)
  where
    by : (b : Bool) → length (raises verdicts plan past fh) ≤ length plan.controls * length past → cond b (length (raises verdicts plan past fh)) 0 ≤ length plan.controls * length past
    by true bound = bound
    by false bound = omega (arith, bound)
