-- What calls, one after another, make of a device.
use Rattle.std.proofs.Common.{◌≡◌, ℕ, List, [], ◌∷◌, ◌++◌, append-nil, append_assoc, Option, Some, None, Ok, Err, IsErr, refl, ap, sym, ◌∙◌}
use Rattle.history.specs.Past.{past, entered}
use Rattle.ctrl_calls.specs.Meanings.{Verdicts}
use Rattle.ctrl_handlers.specs.Plan.{PlanData}
use Rattle.device_history.specs.declared.ask.Ask.{Ask}
use Rattle.device_history.specs.declared.ask.Step.{Step}
use Rattle.device_history.specs.Steps.{History}
use Rattle.device_history.specs.Refusals.{Answer}
use Rattle.device_history.specs.Answers.{MayAnswer, step_of, taken}
use Rattle.device_history.specs.Legal.{IsLegal}
use Rattle.device_history.proofs.PastLemmas.{legal_add}
use Rattle.device_history.proofs.LegalLemmas.{taken_follows}
use Rattle.device_state.specs.Device.{DeviceData, Handles}
use Rattle.device_state.specs.Runs.{Call, IsRun, entries_added, entry_added}

-- the plan stays
pub run_plan : (verdicts : Verdicts) (calls : List Call) (first last : DeviceData) → IsRun verdicts first calls last → last.plan ≡ first.plan
unfolding IsRun
run_plan verdicts [] first last run = ap (λ (d : DeviceData). d.plan) run
run_plan verdicts (call ∷ calls) first last run = run_plan verdicts calls run.0 last run.2 ∙ run.1.plan

-- the steps grow by what the calls add
pub run_steps : (verdicts : Verdicts) (calls : List Call) (first last : DeviceData) → IsRun verdicts first calls last → last.steps ≡ first.steps ++ entries_added verdicts first.plan first.steps calls
unfolding IsRun entries_added
run_steps verdicts [] first last run = ap (λ (d : DeviceData). d.steps) run ∙ sym (append-nil first.steps)
run_steps verdicts (call ∷ calls) first last run =
    let next : DeviceData = run.0 in
    let entry : History = entry_added verdicts first.plan first.steps call in
    run_steps verdicts calls next last run.2
    ∙ ap (λ (p : PlanData). next.steps ++ entries_added verdicts p next.steps calls) run.1.plan
    ∙ ap (λ (s : History). s ++ entries_added verdicts first.plan s calls) run.1.steps
    ∙ append_assoc first.steps entry (entries_added verdicts first.plan (first.steps ++ entry) calls)

-- what a call adds may follow
entered_legal : (verdicts : Verdicts) (plan : PlanData) (steps : History) (words : List ℕ) (seat : ℕ) (ask : Ask) (answer : Answer) → MayAnswer verdicts plan (past steps) words ask answer → IsLegal verdicts plan (past steps)
    → IsLegal verdicts plan (past (steps ++ entered seat (taken verdicts plan (past steps) ask answer)))
entered_legal verdicts plan steps words seat ask (Err fault) may legal = rw (append-nil steps) legal
entered_legal verdicts plan steps words seat ask (Ok reply) may legal = by (step_of verdicts plan (past steps) ask) refl
  where
    by : (o : Option Step) → step_of verdicts plan (past steps) ask ≡ o → IsLegal verdicts plan (past (steps ++ entered seat o))
    by None is = rw (append-nil steps) legal
    by (Some step) is = legal_add verdicts plan steps (record { seat = seat; step = step }) legal (taken_follows verdicts plan (past steps) words ask reply step may is)

-- a call keeps a history legal
call_legal : (verdicts : Verdicts) (old new : DeviceData) (seat : ℕ) (ask : Ask) (answer : Answer) → Handles verdicts old new seat ask answer → IsLegal verdicts old.plan (past old.steps) → IsLegal verdicts new.plan (past new.steps)
call_legal verdicts old new seat ask answer does legal = rw (does.plan, does.steps) (entered_legal verdicts old.plan old.steps old.words seat ask answer does.answers legal)

-- so do calls
pub run_legal : (verdicts : Verdicts) (calls : List Call) (first last : DeviceData) → IsRun verdicts first calls last → IsLegal verdicts first.plan (past first.steps) → IsLegal verdicts last.plan (past last.steps)
unfolding IsRun
run_legal verdicts [] first last run legal = rw run legal
run_legal verdicts (call ∷ calls) first last run legal =
    run_legal verdicts calls run.0 last run.2 (call_legal verdicts first run.0 call.seat call.ask call.answer run.1 legal)

-- a refused call leaves all but the counts of work
pub run_refused : (verdicts : Verdicts) (before behind : List Call) (call : Call) (first last : DeviceData) → IsRun verdicts first (before ++ call ∷ behind) last → IsErr call.answer
    → (old : DeviceData) × (new : DeviceData) × IsRun verdicts first before old × (new ≡ record old { work = new.work }) × IsRun verdicts new behind last
unfolding IsRun
run_refused verdicts [] behind call first last run refused = (first, run.0, refl, run.1.refused refused, run.2)
run_refused verdicts (c ∷ before) behind call first last run refused =
    let rest = run_refused verdicts before behind call run.0 last run.2 refused in
    (rest.0, rest.1, (run.0, run.1, rest.2), rest.3, rest.4)
