-- Whether a step that gives no pairs may follow is read off the parts.
use Rattle.std.proofs.Common.{◌≡◌, ℕ, ℤ, ◌<◌, ◌≤◌, Bool, true, false, not, ◌&&◌, nat_le, if◌then◌else◌, length, Option, None, Some, is_some, Result, Ok, Err, IsOk, refl, ap, sym, ◌∙◌, arith}
use Rattle.std.proofs.lemmas.Bool.Decides.{nat_tests}
use Rattle.ctrl_types.specs.declared.check.Check.{Check}
use Rattle.ctrl_types.specs.declared.check.Check.TheVariants.{ControlMissing, HistoryFull}
use Rattle.ctrl_calls.specs.Meanings.{Verdicts}
use Rattle.ctrl_settle.specs.Control.{Control, with_range}
use Rattle.ctrl_settle.specs.Faults.{IsWellFormed, range_check_of}
use Rattle.ctrl_settle.specs.declared.fault.CtrlFault.{CtrlFault}
use Rattle.ctrl_settle.proofs.WellFormed.{nothing_found, well_formed_where_none}
use Rattle.ctrl_settle.specs.FirstFault.{first_fault}
use Rattle.ctrl_handlers.specs.Plan.{IsPlan, PlanData, control}
use Rattle.device_history.specs.Ranges.{control_with_range, ranges_now}
use Rattle.req_book.specs.Requests.{is_number}
use Rattle.frame_queue.specs.Frames.{next_frame}
use Rattle.device_history.specs.declared.ask.Ask.TheVariants as asks
use Rattle.device_history.specs.declared.ask.Reply.{Reply}
use Rattle.device_history.specs.declared.ask.Step.{Step}
use Rattle.device_history.specs.declared.ask.Step.TheVariants as steps
use Rattle.device_history.specs.Steps.{Past}
use Rattle.device_history.specs.Refusals.{fault_of, is_full, stepped, stepped_with, unless_refused}
use Rattle.device_history.specs.Handles.{handler_of, shown}
use Rattle.device_history.specs.Frames.{first_of, queue, running}
use Rattle.device_history.specs.Snapshots.{frames}
use Rattle.device_history.specs.StepChecks.{step_refusal}
use Rattle.device_history.specs.Answers.{refusal, step_of}
use Rattle.device_history.specs.Asking.{ask_by, free_id}
use Rattle.device_history.specs.Legal.{MayFollow}
use Rattle.device_history.proofs.FitLemmas.{fits}
use Rattle.device_history.proofs.RequestLemmas.{first_queued}
use Rattle.device_history.specs.Requests.{state}
use Rattle.ctrl_types.specs.declared.ids.RequestId.{RequestId}
use Rattle.device_history.proofs.AskingLemmas.{may_decided}
use Rattle.std.specs.Option.{option_and_then, option_map}
use Rattle.std.specs.Result.{result_err}
use Rattle.ctrl_types.specs.declared.ids.FhId.{FhId}
use Rattle.ctrl_handlers.specs.Visible.{find as find_shown}
use Rattle.device_history.specs.EventAnswers.{first_control, first_event}
use Rattle.device_history.specs.Events.{pending}
use Rattle.device_history.specs.Lists.{handler_or}
use Rattle.device_history.proofs.FreeIdLemmas.{free_unshown}
use Rattle.history_audit.specs.Replay.{is_judged}
use Rattle.history_audit.specs.Changing.{fits_parts, lacks, names_found}
use Rattle.device_history.proofs.EventLemmas.{subscribes_known}
use Rattle.device_parts.specs.Leaving.{NamesKnown}

both : (a b : Bool) → (a && b) ≡ true → (a ≡ true) × (b ≡ true)
both true b h = (refl, h)
both false b h = cc

joined : (a b : Bool) → a ≡ true → b ≡ true → (a && b) ≡ true
joined true b h k = k
joined false b h k = cc

none_is : (o : Option Check) → lacks o ≡ true → o ≡ None
none_is None h = refl
none_is (Some e) h = cc

number_is : (o : Option ℕ) (n : ℕ) → is_number o n ≡ true → o ≡ Some n
number_is None n h = cc
number_is (Some m) n h = ap Some (equal m n h)
  where
    equal : (m n : ℕ) → is_number (Some m) n ≡ true → m ≡ n
    equal m n h = grind (arith, nat_tests, h)

own_number : (n : ℕ) → is_number (Some n) n ≡ true
own_number n = grind (arith, nat_tests)

-- an ask that no check of its own refuses, where a further step is kept
unlimited_back : (b : Bool) (reply : Reply) → fault_of (unless_refused (if b then Some HistoryFull else None) reply) ≡ None → b ≡ false
unlimited_back false reply h = refl
unlimited_back true reply h = cc

free : (o : Option Check) (past : Past) (reply : Reply) → o ≡ None → is_full past ≡ false → fault_of (stepped o past reply) ≡ None
free None past reply h room = ap (λ (b : Bool). fault_of (unless_refused (if b then Some HistoryFull else None) reply)) room
free (Some e) past reply h room = cc

free_back : (o : Option Check) (past : Past) (reply : Reply) → fault_of (stepped o past reply) ≡ None → (is_full past ≡ false) × (lacks o ≡ true)
free_back None past reply h = (unlimited_back (is_full past) reply h, refl)
free_back (Some e) past reply h = cc

-- an ask that tells what is found isn't refused where something is, and a further step is kept
found_free : {X : Type 0} (reply : X → Reply) (found : Result X Check) (past : Past) → result_err found ≡ None → is_full past ≡ false → fault_of (stepped_with reply found past) ≡ None
found_free reply (Ok x) past h room = free None past (reply x) refl room
found_free reply (Err check) past h room = cc

found_back : {X : Type 0} (reply : X → Reply) (found : Result X Check) (past : Past) → fault_of (stepped_with reply found past) ≡ None → (is_full past ≡ false) × (lacks (result_err found) ≡ true)
found_back reply (Ok x) past h = free_back None past (reply x) h
found_back reply (Err check) past h = cc

-- nothing is shown under a free id
free_hidden : (plan : PlanData) (past : Past) (fh : FhId) → shown plan past fh (free_id plan (handler_or (handler_of past fh))) ≡ None
free_hidden plan past fh = by (handler_of past fh)
  where
    by : (handler : Option ℕ) → option_and_then (λ n. find_shown plan n (free_id plan (handler_or handler))) handler ≡ None
    by None = refl
    by (Some handler) = free_unshown plan handler

-- what there is fits what a grab needs
grabs_back : (a : Bool) → lacks (if a then Some ControlMissing else None) ≡ true → a ≡ false
grabs_back false h = refl
grabs_back true h = cc

-- where the parts fit, the step may follow
pub fits_may : (verdicts : Verdicts) (plan : PlanData) (past : Past) (step : Step) → is_judged step ≡ false → is_full past ≡ false → fits_parts verdicts plan past step ≡ true → MayFollow verdicts plan past step
fits_may verdicts plan past step plain room h =
    let parts = both (names_found verdicts plan past step) (lacks (step_refusal verdicts plan past step)) h in
    by step plain (none_is (step_refusal verdicts plan past step) parts.1) parts.0
  where
    by : (step : Step) → is_judged step ≡ false → step_refusal verdicts plan past step ≡ None → names_found verdicts plan past step ≡ true → MayFollow verdicts plan past step
    by (steps.OpenFh handler) plain none named = (asks.OpenFh handler, free _ past _ none room, refl)
    by (steps.CloseFh fh) plain none named = (asks.CloseFh fh, free _ past _ none room, refl)
    by (steps.Set fh pairs) plain none named = cc
    by (steps.Grab c on) plain none named = (asks.Grab c on, free _ past _ none room, refl)
    by (steps.ModifyRange c low high apart default_value) plain none named = cc
    by steps.Alloc plain none named = (asks.Alloc, free _ past _ none room, refl)
    by (steps.Store r pairs) plain none named = cc
    by (steps.Buffer r number) plain none named = (asks.AddBuffer r number, free _ past _ none room, refl)
    by (steps.Queue r) plain none named = (asks.Queue r, free _ past _ none room, refl)
    by (steps.Begin r) plain none named = (asks.Begin, found_free _ (next_frame (frames verdicts plan past)) past none room, rw (number_is (first_of (queue past)) r.0 named) refl)
    by (steps.Complete r) plain none named = (asks.Complete, free _ past _ none room, rw (number_is (running past) r.0 named) refl)
    by (steps.Cancel r) plain none named = (asks.Cancel r, free _ past _ none room, refl)
    by steps.StreamOff plain none named = (asks.StreamOff, free _ past _ none room, refl)
    by (steps.Reinit r) plain none named = (asks.Reinit r, free _ past _ none room, refl)
    by (steps.Free r) plain none named = (asks.Free r, free _ past _ none room, refl)
    by (steps.Subscribe fh c flags) plain none named =
        (asks.Subscribe fh (control plan c).id flags, free _ past _ none room, ap (option_map (λ d. steps.Subscribe fh d flags)) (number_is (shown plan past fh (control plan c).id) c named))
    by (steps.Unsubscribe fh (Some c)) plain none named =
        (asks.Unsubscribe fh (control plan c).id, free _ past _ none room, ap (λ (d : Option ℕ). Some (steps.Unsubscribe fh d)) (number_is (shown plan past fh (control plan c).id) c named))
    by (steps.Unsubscribe fh None) plain none named =
        (asks.Unsubscribe fh (free_id plan (handler_or (handler_of past fh))), free _ past _ none room, ap (λ (d : Option ℕ). Some (steps.Unsubscribe fh d)) (free_hidden plan past fh))
    by (steps.Take fh c) plain none named =
        (asks.Take fh, found_free _ (first_event verdicts plan past fh) past none room, ap (option_map (λ d. steps.Take fh d)) (number_is (first_control (pending verdicts plan past fh)) c named))

-- and a step that may follow finds the parts so
pub may_fits : (verdicts : Verdicts) (plan : PlanData) (past : Past) (step : Step) → is_judged step ≡ false → MayFollow verdicts plan past step → (is_full past ≡ false) × (fits_parts verdicts plan past step ≡ true)
may_fits verdicts plan past step plain may = by step plain (may_decided verdicts plan past step may).0 (may_decided verdicts plan past step may).1
  where
    found : {f : ℕ → Step} (o : Option ℕ) (c : ℕ) → ((d : ℕ) → Some (f d) ≡ Some (f c) → d ≡ c) → option_map f o ≡ Some (f c) → is_number o c ≡ true
    found None c apart adds = cc
    found (Some d) c apart adds = ap (λ (n : ℕ). is_number (Some n) c) (apart d adds) ∙ own_number c

    all : (step : Step) → names_found verdicts plan past step ≡ true → (is_full past ≡ false) × (lacks (step_refusal verdicts plan past step) ≡ true) → (is_full past ≡ false) × (fits_parts verdicts plan past step ≡ true)
    all step named unrefused = (unrefused.0, joined (names_found verdicts plan past step) (lacks (step_refusal verdicts plan past step)) named unrefused.1)

    by : (step : Step) → is_judged step ≡ false → refusal verdicts plan past (ask_by plan past step) ≡ None → step_of verdicts plan past (ask_by plan past step) ≡ Some step → (is_full past ≡ false) × (fits_parts verdicts plan past step ≡ true)
    by (steps.Set fh pairs) plain h adds = cc
    by (steps.ModifyRange c low high apart default_value) plain h adds = cc
    by (steps.Store r pairs) plain h adds = cc
    by (steps.Begin r) plain h adds = all (steps.Begin r) (found {f = λ d. steps.Begin (record { 0 = d })} (first_of (queue past)) r.0 (λ d same. cc) adds) (found_back _ (next_frame (frames verdicts plan past)) past h)
    by (steps.Complete r) plain h adds = all (steps.Complete r) (found {f = λ d. steps.Complete (record { 0 = d })} (running past) r.0 (λ d same. cc) adds) (free_back _ past _ h)
    by (steps.Subscribe fh c flags) plain h adds = all (steps.Subscribe fh c flags) (found {f = λ d. steps.Subscribe fh d flags} (shown plan past fh (control plan c).id) c (λ d same. cc) adds) (free_back _ past _ h)
    by (steps.Unsubscribe fh (Some c)) plain h adds =
        let is : shown plan past fh (control plan c).id ≡ Some c = cc in
        all (steps.Unsubscribe fh (Some c)) (ap (λ (o : Option ℕ). is_number o c) is ∙ own_number c) (free_back _ past _ h)
    by (steps.Take fh c) plain h adds =
        all (steps.Take fh c) (found {f = λ d. steps.Take fh d} (first_control (pending verdicts plan past fh)) c (λ d same. cc) adds) (found_back _ (first_event verdicts plan past fh) past h)
    by steps.StreamOff plain h adds = free_back None past _ h
    by _ plain h adds = free_back _ past _ h

-- a control that is given another range, with the numbers as they were given
pub given_own : (ctrl own : Control) (low low' high high' : ℤ) (apart : ℕ) (usual usual' : ℤ) → low' ≡ low → high' ≡ high → usual' ≡ usual → ctrl ≡ own → with_range ctrl low' high' apart usual' ≡ with_range own low high apart usual
given_own ctrl own low low' high high' apart usual usual' l h u is = λ i. with_range (is i) (l i) (h i) apart (u i)

-- what a range change needs
ranges_free : (a : Bool) (fault : Option CtrlFault) → a ≡ false → fault ≡ None → (if a then Some ControlMissing else option_map range_check_of fault) ≡ None
ranges_free false None h k = refl
ranges_free true fault h k = cc
ranges_free false (Some f) h k = cc

ranges_back : (a : Bool) (fault : Option CtrlFault) → lacks (if a then Some ControlMissing else option_map range_check_of fault) ≡ true → (a ≡ false) × (fault ≡ None)
ranges_back false None h = (refl, refl)
ranges_back true fault h = cc
ranges_back false (Some f) h = cc

-- a range change may follow where a further step is kept, its control is there, and nothing is wrong with the range
pub range_follows : (verdicts : Verdicts) (plan : PlanData) (past : Past) (c : ℕ) (low high : ℤ) (apart : ℕ) (default_value : ℤ) (ctrl : Control) → is_full past ≡ false → c < length plan.controls
    → ctrl ≡ control_with_range (ranges_now plan past) c low high apart default_value → IsWellFormed ctrl → MayFollow verdicts plan past (steps.ModifyRange c low high apart default_value)
range_follows verdicts plan past c low high apart default_value ctrl room there is whole =
    let given : Control = control_with_range (ranges_now plan past) c low high apart default_value in (
      asks.ModifyRange c low high apart default_value,
      free _ past _ (ranges_free (nat_le (length plan.controls) c) (first_fault given) (above c (length plan.controls) there) (ap (λ (x : Control). first_fault x) (sym is) ∙ nothing_found ctrl whole)) room,
      refl,
    )
  where
    above : (a b : ℕ) → a < b → nat_le b a ≡ false
    above a b h = grind (arith, nat_tests, h)

-- what a range change that may follow finds
pub range_needs : (verdicts : Verdicts) (plan : PlanData) (past : Past) (c : ℕ) (low high : ℤ) (apart : ℕ) (default_value : ℤ) → MayFollow verdicts plan past (steps.ModifyRange c low high apart default_value)
    → (is_full past ≡ false) × (c < length plan.controls) × (first_fault (control_with_range (ranges_now plan past) c low high apart default_value) ≡ None)
range_needs verdicts plan past c low high apart default_value may =
    let unrefused = free_back _ past _ (may_decided verdicts plan past (steps.ModifyRange c low high apart default_value) may).0 in
    let parts = ranges_back (nat_le (length plan.controls) c) (first_fault (control_with_range (ranges_now plan past) c low high apart default_value)) unrefused.1 in
    (unrefused.0, below c (length plan.controls) parts.0, parts.1)
  where
    below : (a b : ℕ) → nat_le b a ≡ false → a < b
    below a b h = grind (arith, nat_tests, h)

-- it may not where no further step is kept, where its control isn't there, and where this doesn't take the range
pub range_full : (verdicts : Verdicts) (plan : PlanData) (past : Past) (c : ℕ) (low high : ℤ) (apart : ℕ) (default_value : ℤ) → is_full past ≡ true → MayFollow verdicts plan past (steps.ModifyRange c low high apart default_value) → ⊥
range_full verdicts plan past c low high apart default_value full may =
    let room = (range_needs verdicts plan past c low high apart default_value may).0 in cc

pub range_beyond : (verdicts : Verdicts) (plan : PlanData) (past : Past) (c : ℕ) (low high : ℤ) (apart : ℕ) (default_value : ℤ) → length plan.controls ≤ c → MayFollow verdicts plan past (steps.ModifyRange c low high apart default_value) → ⊥
range_beyond verdicts plan past c low high apart default_value beyond may = omega (arith, beyond, (range_needs verdicts plan past c low high apart default_value may).1)

pub range_refused : {E : Type 0} (verdicts : Verdicts) (plan : PlanData) (past : Past) (c : ℕ) (low high : ℤ) (apart : ℕ) (default_value : ℤ) (ctrl : Control) (e : E) → ctrl ≡ control_with_range (ranges_now plan past) c low high apart default_value
    → (IsWellFormed ctrl → IsOk {T = Control} (Err e)) → MayFollow verdicts plan past (steps.ModifyRange c low high apart default_value) → ⊥
range_refused {E = E} verdicts plan past c low high apart default_value ctrl e is takes may =
    differ (takes (well_formed_where_none ctrl (ap (λ (x : Control). first_fault x) is ∙ (range_needs verdicts plan past c low high apart default_value may).2)))
  where
    differ : IsOk {T = Control} {E = E} (Err e) → ⊥
    differ h = cc

-- a control that is grabbed is there
pub grab_known : (verdicts : Verdicts) (plan : PlanData) (past : Past) (c : ℕ) (on : Bool) → MayFollow verdicts plan past (steps.Grab c on) → c < length plan.controls
grab_known verdicts plan past c on may = below c (length plan.controls) (grabs_back (nat_le (length plan.controls) c) (may_fits verdicts plan past (steps.Grab c on) refl may).1)
  where
    below : (a b : ℕ) → nat_le b a ≡ false → a < b
    below a b h = grind (arith, nat_tests, h)

-- whether there is none, as it is read
pub none_read : (o : Option Check) (b : Bool) → is_some o ≡ not b → b ≡ lacks o
none_read None true h = refl
none_read None false h = cc
none_read (Some e) true h = cc
none_read (Some e) false h = refl

-- what is read says whether the step may follow
pub full_not : (verdicts : Verdicts) (plan : PlanData) (past : Past) (step : Step) → is_judged step ≡ false → is_full past ≡ true → MayFollow verdicts plan past step → ⊥
full_not verdicts plan past step plain full may = clash (sym full ∙ (may_fits verdicts plan past step plain may).0)
  where
    clash : true ≡ false → ⊥
    clash h = cc

-- a request whose frame begins is there
pub begin_there : (verdicts : Verdicts) (plan : PlanData) (past : Past) (r : RequestId) → MayFollow verdicts plan past (steps.Begin r) → is_some (state past r.0) ≡ true
begin_there verdicts plan past r may = ap is_some (first_queued past r.0 (fits verdicts plan past (steps.Begin r) may).1.1)

-- the controls that a step which gives no pairs names are there
pub names_known : (verdicts : Verdicts) (plan : PlanData) (past : Past) (step : Step) → IsPlan plan → is_judged step ≡ false → MayFollow verdicts plan past step → NamesKnown (length plan.controls) step
names_known verdicts plan past (steps.Store r pairs) plans plain may = cc
names_known verdicts plan past (steps.Subscribe fh c flags) plans plain may = subscribes_known verdicts plan past fh c flags plans may
names_known verdicts plan past _ plans plain may = tt
