-- What each try to replay an entry says of the whole history.
use Rattle.std.proofs.Common.{◌≡◌, ℕ, suc, zero, ◌+◌, ◌<◌, ◌≤◌, true, false, List, [], ◌∷◌, length, take, get_or, slice_get, Some, Result, Ok, Err, IfOk, OnErr, Bool, refl, ap, sym, ◌∙◌, subst, arith}
use Rattle.std.proofs.lemmas.List.{take_all}
use Rattle.std.proofs.lemmas.Option.{slice_get_read}
use Rattle.history.specs.declared.entry.Entry.{Entry}
use Rattle.history.specs.Past.{past}
use Rattle.ctrl_calls.specs.Meanings.{Verdicts}
use Rattle.ctrl_handlers.specs.Plan.{PlanData}
use Rattle.device_history.specs.declared.ask.Step.{Step}
use Rattle.device_history.specs.Steps.{History}
use Rattle.device_history.specs.Legal.{IsLegal}
use Rattle.device_history.proofs.PastLemmas.{legal_add}
use Rattle.history_audit.specs.Fault.{StopsAt}
use Rattle.history_audit.specs.Replay.{IsAside, IsNextEntry, IsProgressOf, ProgressData, ReplayData, Replayed}
use Rattle.history_audit.specs.Scratch.{ScratchData, scratch}
use Rattle.history_audit.proofs.MadeLemmas.{at, behind_next, taken_many}

-- an entry stands at each place
stands : (xs : History) (n : ℕ) → n < length xs → (e : Entry Step) × (slice_get xs n ≡ Some e)
stands [] n h = absurd (omega (arith, h))
stands (x ∷ xs) zero h = (x, refl)
stands (x ∷ xs) (suc n) h = stands xs n (omega (arith, h))

-- the entry that stands behind them is the next one
next_at : (plan : PlanData) (all : History) (n : ℕ) (e : Entry Step) → n ≤ length all → slice_get all n ≡ Some e → IsNextEntry (at plan all n) e
next_at plan all n e h is = subst (λ (m : ℕ). slice_get all m ≡ Some e) (sym (taken_many all n h)) is

-- more stand in the history than were replayed
pub more_stand : (all : History) (n : ℕ) → n ≤ length all → length (take n all) < length all → n < length all
more_stand all n within more = subst (λ (m : ℕ). m < length all) (taken_many all n within) more

pub next_read : (plan : PlanData) (all : History) (n : ℕ) (e : Entry Step) → n ≤ length all → length (take n all) < length all → e ≡ get_or all n e → IsNextEntry (at plan all n) e
next_read plan all n e within more is =
    let less : n < length all = more_stand all n within more in
    next_at plan all n e within (slice_get_read all (length all) n e refl less is)

-- the steps stay legal, whatever comes of the next one
pub legal_next : {E : Type 0} (verdicts : Verdicts) (old new : ReplayData) (e : Entry Step) (done : Result Bool E) → IsLegal verdicts old.plan (past old.steps) → IsNextEntry old e
    → IfOk done (λ is. (e : Entry Step) → IsNextEntry old e → Replayed verdicts old new e is) → OnErr done (new ≡ old) → IsLegal verdicts new.plan (past new.steps)
legal_next verdicts old new e (Ok true) legal here does kept =
    let replayed = does e here in
    subst (λ (r : ReplayData). IsLegal verdicts r.plan (past r.steps)) (sym replayed.1) (legal_add verdicts old.plan old.steps e legal replayed.0)
legal_next verdicts old new e (Ok false) legal here does kept = subst (λ (r : ReplayData). IsLegal verdicts r.plan (past r.steps)) (sym (does e here).1) legal
legal_next verdicts old new e (Err err) legal here does kept = subst (λ (r : ReplayData). IsLegal verdicts r.plan (past r.steps)) (sym kept) legal

-- as a replay begins to be gone on with
pub rest_starts : (replay : ReplayData) (all : History) (n : ℕ) → replay.all ≡ all → replay.steps ≡ take n replay.all → replay ≡ at replay.plan all n
rest_starts replay all n is first =
    let steps : replay.steps ≡ take n all = first ∙ ap (take n) is in
    λ i. let r : ReplayData = record { plan = replay.plan; steps = steps i; all = is i } in r

-- where the next one may not follow nothing changes
pub stays_there : (verdicts : Verdicts) (plan : PlanData) (all : History) (old new : ReplayData) (n : ℕ) → old ≡ at plan all n → n < length all
    → ((e : Entry Step) → IsNextEntry old e → Replayed verdicts old new e false) → new ≡ at plan all n
stays_there verdicts plan all old new n is h replays =
    let s = stands all n h in
    let does : (e : Entry Step) → IsNextEntry (at plan all n) e → Replayed verdicts (at plan all n) new e false =
    subst (λ (r : ReplayData). (e : Entry Step) → IsNextEntry r e → Replayed verdicts r new e false) is replays in
    (does s.0 (next_at plan all n s.0 (omega (arith, h)) s.1)).1

-- what is put aside then was replayed of the whole history
pub aside_of : (verdicts : Verdicts) (plan : PlanData) (all : History) (n : ℕ) (replay : ReplayData) (made : ProgressData) → replay ≡ at plan all n → IsAside verdicts replay made → IsProgressOf verdicts plan all made
aside_of verdicts plan all n replay made is aside = subst (λ (r : ReplayData). IsProgressOf verdicts r.plan r.all made) is aside.first

-- of more than so many so many are taken
taken_least : {X : Type 0} (xs : List X) (n least : ℕ) → least ≤ n → least ≤ length xs → least ≤ length (take n xs)
taken_least [] zero least from within = omega (arith, within)
taken_least [] (suc n) least from within = omega (arith, within)
taken_least (x ∷ xs) zero least from within = omega (arith, from)
taken_least (x ∷ xs) (suc n) zero from within = omega arith
taken_least (x ∷ xs) (suc n) (suc least) from within = let rest = taken_least xs n least (omega (arith, from)) (omega (arith, within)) in omega (arith, rest)

-- and has no fewer steps than were replayed at first
pub no_fewer : (plan : PlanData) (all : History) (n least : ℕ) (replay : ReplayData) (made : ProgressData) → replay ≡ at plan all n → least ≤ length all → least ≤ n → made.count ≡ length replay.steps → least ≤ made.count
no_fewer plan all n least replay made is within from many =
    let same : length replay.steps ≡ length (take n all) = ap (λ (r : ReplayData). length r.steps) is in
    omega (arith, many, same, taken_least all n least from within)

-- one more was replayed
pub audit_next : (verdicts : Verdicts) (plan : PlanData) (all : History) (old new : ReplayData) (n : ℕ) → old ≡ at plan all n → n < length all
    → ((e : Entry Step) → IsNextEntry old e → Replayed verdicts old new e true) → new ≡ at plan all (n + 1)
audit_next verdicts plan all old new n is h replays =
    let s = stands all n h in
    let here : IsNextEntry (at plan all n) s.0 = next_at plan all n s.0 (omega (arith, h)) s.1 in
    let does : Replayed verdicts (at plan all n) new s.0 true = subst (λ (r : ReplayData). Replayed verdicts r new s.0 true) is (replays s.0 (subst (λ (r : ReplayData). IsNextEntry r s.0) (sym is) here)) in
    does.1 ∙ sym (behind_next plan all n (omega (arith, h)) s.0 here)

-- the next one may not follow
pub audit_stops : (verdicts : Verdicts) (plan : PlanData) (all : History) (old new : ReplayData) (n : ℕ) → old ≡ at plan all n → n < length all
    → ((e : Entry Step) → IsNextEntry old e → Replayed verdicts old new e false) → IsLegal verdicts new.plan (past new.steps) → StopsAt verdicts plan all n
audit_stops verdicts plan all old new n is h replays legal =
    let does : (e : Entry Step) → IsNextEntry (at plan all n) e → Replayed verdicts (at plan all n) new e false =
    subst (λ (r : ReplayData). (e : Entry Step) → IsNextEntry r e → Replayed verdicts r new e false) is replays in
    let same : new ≡ at plan all n = stays_there verdicts plan all old new n is h replays in
    record {
      within = h;
      legal = subst (λ (r : ReplayData). IsLegal verdicts r.plan (past r.steps)) same legal;
      ends = λ e here. (does e (next_at plan all n e (omega (arith, h)) here)).0;
    }

-- another one is to be replayed
pub next_there : (plan : PlanData) (all : History) (replay : ReplayData) (n : ℕ) → replay ≡ at plan all n → n < length all → length replay.steps < length replay.all
next_there plan all replay n is h =
    subst (λ (r : ReplayData). length r.steps < length r.all) (sym is) (subst (λ (m : ℕ). m < length all) (sym (taken_many all n (omega (arith, h)))) h)

-- all were replayed
all_replayed : (plan : PlanData) (all : History) (replay : ReplayData) (n : ℕ) → replay ≡ at plan all n → length all ≤ n → ◌≡◌ {A = ReplayData} replay (record { plan = plan; steps = all; all = all })
all_replayed plan all replay n is h = is ∙ ap (λ (steps : History). (let d : ReplayData = record { plan = plan; steps = steps; all = all } in d)) (take_all n all h)

-- what is put aside then are all
pub whole_aside : (plan : PlanData) (all : History) (replay : ReplayData) (n : ℕ) (made : ProgressData) → replay ≡ at plan all n → length all ≤ n → made.count ≡ length replay.steps → made.count ≡ length all
whole_aside plan all replay n made is h many = many ∙ ap (λ (r : ReplayData). length r.steps) (all_replayed plan all replay n is h)

-- so the whole history is legal, and what was made is what it makes
pub audited_legal : (verdicts : Verdicts) (plan : PlanData) (all : History) (replay : ReplayData) (n : ℕ) → replay ≡ at plan all n → length all ≤ n → IsLegal verdicts replay.plan (past replay.steps) → IsLegal verdicts plan (past all)
audited_legal verdicts plan all replay n is h legal = subst (λ (r : ReplayData). IsLegal verdicts r.plan (past r.steps)) (all_replayed plan all replay n is h) legal

pub audited_scratch : (verdicts : Verdicts) (plan : PlanData) (all : History) (replay : ReplayData) (n : ℕ) (made : ScratchData) → replay ≡ at plan all n → length all ≤ n
    → made ≡ scratch verdicts replay.plan (past replay.steps) → made ≡ scratch verdicts plan (past all)
audited_scratch verdicts plan all replay n made is h makes = makes ∙ ap (λ (r : ReplayData). scratch verdicts r.plan (past r.steps)) (all_replayed plan all replay n is h)
