-- What one more step makes of a replay.
use Rattle.std.proofs.Common.{◌≡◌, ℕ, suc, zero, ◌+◌, ◌<◌, ◌≤◌, nat_eq, true, false, List, [], ◌∷◌, ◌++◌, length, take, slice_get, Option, Some, None, refl, ap, sym, ◌∙◌, subst, length-append, arith}
use Rattle.std.specs.Map.{lookup}
use Rattle.std.specs.Option.{option_map}
use Rattle.std.proofs.lemmas.Bool.Decides.{nat_tests}
use Rattle.history.specs.declared.entry.Entry.{Entry}
use Rattle.history.specs.Past.{past}
use Rattle.history.proofs.Pasts.{length_past}
use Rattle.ctrl_calls.specs.Meanings.{Verdicts}
use Rattle.ctrl_handlers.specs.Plan.{PlanData}
use Rattle.device_history.specs.declared.limits.TheConstants.{MAX_STEPS}
use Rattle.device_history.specs.declared.ask.Step.{Step}
use Rattle.device_history.specs.Steps.{History}
use Rattle.device_history.specs.Refusals.{is_full}
use Rattle.device_history.specs.Legal.{MayFollow}
use Rattle.device_parts.specs.Makes.{Makes}
use Rattle.device_parts.specs.State.{IsMade, IsReady, StateData}
use Rattle.device_parts.proofs.MadeLemmas.{made_fresh, made_ready}
use Rattle.history_audit.specs.Replay.{IsNextEntry, IsNextStep, IsProgressOf, IsReplay, ReplayData, ProgressData, Replayed, with_next}

-- so many are taken
pub taken_many : {X : Type 0} (xs : List X) (n : ℕ) → n ≤ length xs → length (take n xs) ≡ n
taken_many [] zero h = refl
taken_many [] (suc n) h = absurd (omega (arith, h))
taken_many (x ∷ xs) zero h = refl
taken_many (x ∷ xs) (suc n) h = let rest = taken_many xs n (omega (arith, h)) in omega (arith, rest)

-- one more is taken
pub taken_next : {X : Type 0} (xs : List X) (n : ℕ) (x : X) → slice_get xs n ≡ Some x → (take (suc n) xs ≡ take n xs ++ x ∷ []) × (n < length xs)
taken_next [] n x h = cc
taken_next (y ∷ xs) zero x h = (ap (λ (z : _). z ∷ []) (same y x h), omega arith)
  where
    same : {Y : Type 0} (a b : Y) → Some a ≡ Some b → a ≡ b
    same a b h = cc
taken_next (y ∷ xs) (suc n) x h = let rest = taken_next xs n x h in (ap (λ (zs : List _). y ∷ zs) rest.0, omega (arith, rest.1))

-- those that are taken of more are the same
taken_front : {X : Type 0} (xs more : List X) (n : ℕ) → n ≤ length xs → take n (xs ++ more) ≡ take n xs
taken_front xs more zero h = refl
taken_front [] more (suc n) h = absurd (omega (arith, h))
taken_front (x ∷ xs) more (suc n) h = ap (λ (ys : List _). x ∷ ys) (taken_front xs more n (omega (arith, h)))

-- what was replayed of a history was replayed of a longer one
pub replay_longer : (verdicts : Verdicts) (plan : PlanData) (all more : History) (made : ProgressData) → IsProgressOf verdicts plan all made → IsProgressOf verdicts plan (all ++ more) made
replay_longer verdicts plan all more made is = record {
  within = omega (arith, is.within, length-append all more);
  few = is.few;
  made = subst (λ (s : History). IsMade verdicts plan s made.state) (sym (taken_front all more made.count is.within)) is.made;
}

-- none was replayed of a state that no step made
pub replay_start : (verdicts : Verdicts) (plan : PlanData) (all : History) (state : StateData) → IsMade verdicts plan [] state → IsReplay verdicts plan all 0 state
replay_start verdicts plan all state made = record { within = omega arith; few = omega arith; made = made }

-- the next entry is replayed
pub replayed_next : (all : History) (count : ℕ) (e : Entry Step) → count ≤ length all → slice_get all (length (take count all)) ≡ Some e → (take (count + 1) all ≡ take count all ++ e ∷ []) × (count < length all)
replayed_next all count e within h =
    let more = taken_next all count e (subst (λ (n : ℕ). slice_get all n ≡ Some e) (taken_many all count within) h) in
    let next : count + 1 ≡ suc count = omega arith in
    (ap (λ (n : ℕ). take n all) next ∙ more.0, more.1)

-- the next step stands in the next entry
next_entry : (replay : ReplayData) (step : Step) → IsNextStep replay step → (e : Entry Step) × IsNextEntry replay e × (e.step ≡ step)
next_entry replay step next = by (slice_get replay.all (length replay.steps)) next
  where
    by : (o : Option (Entry Step)) → option_map (λ e. e.step) o ≡ Some step → (e : Entry Step) × (o ≡ Some e) × (e.step ≡ step)
    by None h = cc
    by (Some e) h = (e, refl, cc)

-- in each
pub next_step : (replay : ReplayData) (step : Step) (e : Entry Step) → IsNextStep replay step → IsNextEntry replay e → e.step ≡ step
next_step replay step e next here = same e.step step (ap (option_map (λ (x : Entry Step). x.step)) (sym here) ∙ next)
  where
    same : (a b : Step) → Some a ≡ Some b → a ≡ b
    same a b h = cc

-- so many steps of a history were replayed
abbrev pub at : PlanData → History → ℕ → ReplayData
at plan all n = record { plan = plan; steps = take n all; all = all }

-- one more step that may follow, with the state that it makes
pub replay_makes : (verdicts : Verdicts) (plan : PlanData) (all : History) (count : ℕ) (old new : StateData) (step : Step) → IsReplay verdicts plan all count old → IsNextStep (at plan all count) step
    → is_full (past (take count all)) ≡ false → MayFollow verdicts plan (past (take count all)) step → Makes verdicts plan count step old new → IsReplay verdicts plan all (count + 1) new
replay_makes verdicts plan all count old new step replay next room may makes =
    let there = next_entry (at plan all count) step next in
    let more = replayed_next all count there.0 replay.within there.1 in
    let many : length (take count all) ≡ count = taken_many all count replay.within in
    let few : count < MAX_STEPS = below (take count all) count many room in
    record {
      within = omega (arith, more.1);
      few = omega (arith, few);
      made = subst (λ (s : History). IsMade verdicts plan s new) (sym more.0) (makes (take count all) there.0 many there.2 replay.made may);
    }
  where
    below : (steps : History) (n : ℕ) → length steps ≡ n → is_full (past steps) ≡ false → n < MAX_STEPS
    below steps n many room = grind (arith, nat_tests, length_past steps, room)

-- how the replay looks behind one more entry
pub behind_next : (plan : PlanData) (all : History) (count : ℕ) → count ≤ length all → (e : Entry Step) → IsNextEntry (at plan all count) e → at plan all (count + 1) ≡ with_next (at plan all count) e
behind_next plan all count within e next = ap (λ (steps : History). (let d : ReplayData = record { plan = plan; steps = steps; all = all } in d)) (replayed_next all count e within next).0

-- what a try to replay the next step says of the next entry
pub replayed_true : (verdicts : Verdicts) (old new : ReplayData) (step : Step) → IsNextStep old step → MayFollow verdicts old.plan (past old.steps) step → ((e : Entry Step) → IsNextEntry old e → new ≡ with_next old e)
    → (e : Entry Step) → IsNextEntry old e → Replayed verdicts old new e true
replayed_true verdicts old new step next may is e here = (rw (next_step old step e next here) may, is e here)

pub replayed_false : (verdicts : Verdicts) (old new : ReplayData) (step : Step) → IsNextStep old step → (MayFollow verdicts old.plan (past old.steps) step → ⊥) → new ≡ old
    → (e : Entry Step) → IsNextEntry old e → Replayed verdicts old new e false
replayed_false verdicts old new step next not is e here = (subst (λ (s : Step). MayFollow verdicts old.plan (past old.steps) s → ⊥) (sym (next_step old step e next here)) not, is)

-- what was replayed made a state that is ready for one more step
pub replay_ready : (verdicts : Verdicts) (plan : PlanData) (all : History) (count : ℕ) (state : StateData) → IsReplay verdicts plan all count state → IsReady plan state
replay_ready verdicts plan all count state replay = let many = taken_many all count replay.within in made_ready verdicts plan (take count all) state replay.made (omega (arith, many, replay.few))

-- the number of the next step is no open file handle's id
pub replay_fresh : (verdicts : Verdicts) (plan : PlanData) (all : History) (count : ℕ) (state : StateData) → IsReplay verdicts plan all count state → lookup (nat_eq count) state.file_handles ≡ None
replay_fresh verdicts plan all count state replay =
    subst (λ (n : ℕ). lookup (nat_eq n) state.file_handles ≡ None) (taken_many all count replay.within) (made_fresh verdicts plan (take count all) state replay.made)
