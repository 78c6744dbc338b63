-- What a call does to the device: where it adds no step, where it opens or closes a file handle, where it sets controls.
use Rattle.std.proofs.Common.{◌≡◌, ℕ, ◌≤◌, ◌+◌, Bool, true, List, length, Option, Some, None, Ok, Err, IsOk, OnOk, refl, ap, sym, subst, ◌∙◌, arith, inl}
use Rattle.std.specs.List.{list_any}
use Rattle.std.proofs.lemmas.List.{append-nil}
use Rattle.history.specs.Past.{past}
use Rattle.history.proofs.Pasts.{length_past}
use Rattle.ctrl_calls.specs.Meanings.{Verdicts, Words}
use Rattle.ctrl_calls.specs.declared.work.Work.{Work}
use Rattle.ctrl_types.specs.declared.check.Check.{Check}
use Rattle.ctrl_types.specs.declared.errno.Fault.{Fault}
use Rattle.ctrl_types.specs.declared.ids.CtrlId.{CtrlId}
use Rattle.ctrl_types.specs.declared.ids.ExtControl.{ExtControl}
use Rattle.ctrl_types.specs.declared.ids.FhId.{FhId}
use Rattle.ctrl_types.specs.declared.ids.Pair.{Pair}
use Rattle.ctrl_types.specs.declared.ids.RequestId.{RequestId}
use Rattle.ctrl_types.specs.Classes.{which_of}
use Rattle.device_history.specs.declared.ask.Step.{Step}
use Rattle.device_history.specs.declared.ask.Ask.{Ask}
use Rattle.device_history.specs.declared.ask.Ask.TheVariants as asks
use Rattle.device_history.specs.declared.ask.Reply.{Reply}
use Rattle.device_history.specs.declared.ask.Reply.TheVariants.{Fh, Done, Controls}
use Rattle.device_history.specs.declared.ask.Step.TheVariants.{OpenFh, CloseFh, Set, Grab}
use Rattle.ctrl_handlers.specs.Plan.{PlanData, cluster_of, members}
use Rattle.ctrl_lists.specs.Touched.{TouchedData, none_where, touched, judged_count, with_calls}
use Rattle.device_history.specs.Grabs.{grab_check}
use Rattle.device_history.specs.Steps.{Past}
use Rattle.device_history.specs.Values.{now}
use Rattle.device_history.specs.Refusals.{Answer, refused, step_check, stepped}
use Rattle.device_history.specs.Handles.{open_check, through}
use Rattle.device_history.specs.RequestAnswers.{state_answer}
use Rattle.device_history.specs.Queries.{query_answer, next_answer, told_answer}
use Rattle.device_history.specs.Lists.{list_pairs, meant, set_list_answer, which_or}
use Rattle.device_history.specs.Answers.{MayAnswer, answer_of, step_of, taken}
use Rattle.device_history.specs.Forecasts.{queued_frames}
use Rattle.ctrl_forecast.specs.Forecasts.{QueuedData, named_by_frames}
use Rattle.ctrl_clusters.specs.NewRows.{clusters_of}
use Rattle.ctrl_types.specs.declared.refusal.Refusal.{Refusal}
use Rattle.device_state.specs.Device.{DeviceData, Handles, forecast_asks, cluster_asks, list_most, list_touches, may_ask, must_ask, with_step, step_changes}
use Rattle.device_state.proofs.BoundLemmas.{forecasts_asked, set_opened}
use Rattle.device_state.specs.Changed.{IsChangedBy, moves, values_then}
use Rattle.device_state.specs.Setting.{CanBeSet, SetsAll}
use Rattle.device_history.proofs.WordLemmas.{changed_row}
use Rattle.device_state.proofs.SettingLemmas.{set_step}
use Rattle.device_history.specs.Words.{changes, pairs_applied}
use Rattle.device_state.proofs.SetLemmas.{notified_none, notified_same}
use Rattle.device_state.proofs.StepLemmas.{own_refused, step_answered, step_refused}

-- no call yet
abbrev pub at_rest : Work
at_rest = record { asked = 0; told = 0 }

pub asked_at_rest : (work : Work) (n : ℕ) → work ≡ at_rest → work.asked ≤ n
asked_at_rest work n rest = omega (arith, ap (λ (w : Work). w.asked) rest)

-- a call that adds no step
pub handles_none : (verdicts : Verdicts) (old : DeviceData) (work : Work) (seat : ℕ) (ask : Ask) (answer : Answer) → work.told ≡ 0 → work.asked ≤ may_ask verdicts old.plan (past old.steps) ask answer
    → (IsOk answer → with_calls (must_ask old.plan (past old.steps) ask) 0 ≤ work.asked) → taken verdicts old.plan (past old.steps) ask answer ≡ None → MayAnswer verdicts old.plan (past old.steps) old.words ask answer
    → Handles verdicts old (record old { work = work }) seat ask answer
handles_none verdicts old work seat ask answer told asked all none may = record {
  plan = refl;
  answers = may;
  refused = λ _. refl;
  steps = rw none (sym (append-nil old.steps));
  words = λ k lt same. refl;
  notified = rw none (told ∙ sym (notified_none old.plan (step_changes verdicts old.plan (past old.steps) None) (λ c. refl)));
  asked = asked;
  asked_all = all;
}

-- what reads takes no step
taken_get : (verdicts : Verdicts) (plan : PlanData) (older : Past) (fh : FhId) (which : ℕ) (request : Option RequestId) (list : List ExtControl) (answer : Answer)
    → taken verdicts plan older (asks.GetCtrls fh which request list) answer ≡ None
taken_get verdicts plan older fh which request list (Ok reply) = refl
taken_get verdicts plan older fh which request list (Err fault) = refl

taken_told : (verdicts : Verdicts) (plan : PlanData) (older : Past) (cluster : ℕ) (answer : Answer) → taken verdicts plan older (asks.Told cluster) answer ≡ None
taken_told verdicts plan older cluster (Ok reply) = refl
taken_told verdicts plan older cluster (Err fault) = refl

taken_query : (verdicts : Verdicts) (plan : PlanData) (older : Past) (fh : FhId) (id : CtrlId) (answer : Answer) → taken verdicts plan older (asks.Query fh id) answer ≡ None
taken_query verdicts plan older fh id (Ok reply) = refl
taken_query verdicts plan older fh id (Err fault) = refl

taken_next : (verdicts : Verdicts) (plan : PlanData) (older : Past) (fh : FhId) (id : CtrlId) (answer : Answer) → taken verdicts plan older (asks.NextId fh id) answer ≡ None
taken_next verdicts plan older fh id (Ok reply) = refl
taken_next verdicts plan older fh id (Err fault) = refl

taken_item : (verdicts : Verdicts) (plan : PlanData) (older : Past) (fh : FhId) (id : CtrlId) (index : ℕ) (answer : Answer) → taken verdicts plan older (asks.MenuItem fh id index) answer ≡ None
taken_item verdicts plan older fh id index (Ok reply) = refl
taken_item verdicts plan older fh id index (Err fault) = refl

-- a get
pub handles_get : (verdicts : Verdicts) (old : DeviceData) (work : Work) (seat : ℕ) (fh : FhId) (which : ℕ) (request : Option RequestId) (list : List ExtControl) (answer : Answer) → work ≡ at_rest
    → MayAnswer verdicts old.plan (past old.steps) old.words (asks.GetCtrls fh which request list) answer
    → Handles verdicts old (record old { work = work }) seat (asks.GetCtrls fh which request list) answer
handles_get verdicts old work seat fh which request list answer rest may =
    handles_none verdicts old work seat _ answer (ap (λ (w : Work). w.told) rest) (asked_at_rest work _ rest) (λ _. omega arith) (taken_get verdicts old.plan (past old.steps) fh which request list answer) may

-- reading a word
pub handles_told : (verdicts : Verdicts) (old : DeviceData) (work : Work) (seat cluster : ℕ) (answer : Answer) → work ≡ at_rest
    → answer ≡ told_answer old.plan old.words cluster
    → Handles verdicts old (record old { work = work }) seat (asks.Told cluster) answer
handles_told verdicts old work seat cluster answer rest is =
    handles_none verdicts old work seat _ answer (ap (λ (w : Work). w.told) rest) (asked_at_rest work _ rest) (λ _. omega arith) (taken_told verdicts old.plan (past old.steps) cluster answer) (inl is)

-- reading a request's state
taken_state : (verdicts : Verdicts) (plan : PlanData) (older : Past) (request : RequestId) (answer : Answer) → taken verdicts plan older (asks.StateOf request) answer ≡ None
taken_state verdicts plan older request (Ok reply) = refl
taken_state verdicts plan older request (Err fault) = refl

pub handles_state : (verdicts : Verdicts) (old : DeviceData) (work : Work) (seat : ℕ) (request : RequestId) (answer : Answer) → work ≡ at_rest
    → answer ≡ state_answer (past old.steps) request
    → Handles verdicts old (record old { work = work }) seat (asks.StateOf request) answer
handles_state verdicts old work seat request answer rest is =
    handles_none verdicts old work seat _ answer (ap (λ (w : Work). w.told) rest) (asked_at_rest work _ rest) (λ _. omega arith) (taken_state verdicts old.plan (past old.steps) request answer) (inl is)

-- a query
pub handles_query : (verdicts : Verdicts) (old : DeviceData) (work : Work) (seat : ℕ) (fh : FhId) (id : CtrlId) (answer : Answer) → work ≡ at_rest
    → answer ≡ query_answer verdicts old.plan (past old.steps) fh id
    → Handles verdicts old (record old { work = work }) seat (asks.Query fh id) answer
handles_query verdicts old work seat fh id answer rest is =
    handles_none verdicts old work seat _ answer (ap (λ (w : Work). w.told) rest) (asked_at_rest work _ rest) (λ _. omega arith) (taken_query verdicts old.plan (past old.steps) fh id answer) (inl is)

-- the next id
pub handles_next : (verdicts : Verdicts) (old : DeviceData) (work : Work) (seat : ℕ) (fh : FhId) (id : CtrlId) (answer : Answer) → work ≡ at_rest
    → answer ≡ next_answer old.plan (past old.steps) fh id
    → Handles verdicts old (record old { work = work }) seat (asks.NextId fh id) answer
handles_next verdicts old work seat fh id answer rest is =
    handles_none verdicts old work seat _ answer (ap (λ (w : Work). w.told) rest) (asked_at_rest work _ rest) (λ _. omega arith) (taken_next verdicts old.plan (past old.steps) fh id answer) (inl is)

-- an item of a menu
pub handles_item : (verdicts : Verdicts) (old : DeviceData) (work : Work) (seat : ℕ) (fh : FhId) (id : CtrlId) (index : ℕ) (answer : Answer) → work ≡ at_rest
    → MayAnswer verdicts old.plan (past old.steps) old.words (asks.MenuItem fh id index) answer
    → Handles verdicts old (record old { work = work }) seat (asks.MenuItem fh id index) answer
handles_item verdicts old work seat fh id index answer rest may =
    handles_none verdicts old work seat _ answer (ap (λ (w : Work). w.told) rest) (asked_at_rest work _ rest) (λ _. omega arith) (taken_item verdicts old.plan (past old.steps) fh id index answer) may

-- a refusal before anybody is asked
pub handles_refused : (verdicts : Verdicts) (old new : DeviceData) (work : Work) (seat : ℕ) (ask : Ask) (fault : Fault) → new ≡ record old { work = work } → work ≡ at_rest
    → MayAnswer verdicts old.plan (past old.steps) old.words ask (Err fault)
    → Handles verdicts old new seat ask (Err fault)
handles_refused verdicts old new work seat ask fault begin rest may =
    rw begin (handles_none verdicts old work seat ask (Err fault) (ap (λ (w : Work). w.told) rest) (asked_at_rest work _ rest) (λ e. cc) refl may)

-- a refusal of an ask that adds a step: by a check of its own, or as no further step is kept
pub handles_unstepped : (verdicts : Verdicts) (old new : DeviceData) (work : Work) (seat : ℕ) (ask : Ask) (own : Option Check) (check : Check) (reply : Reply) → new ≡ record old { work = work } → work ≡ at_rest
    → answer_of verdicts old.plan (past old.steps) old.words ask ≡ stepped own (past old.steps) reply → step_check (past old.steps) own ≡ Some check
    → Handles verdicts old new seat ask (refused check)
handles_unstepped verdicts old new work seat ask own check reply begin rest answers refuses =
    handles_refused verdicts old new work seat ask _ begin rest (inl (sym (answers ∙ step_refused (past old.steps) own check reply refuses)))

pub handles_unowned : (verdicts : Verdicts) (old new : DeviceData) (work : Work) (seat : ℕ) (ask : Ask) (own : Option Check) (check : Check) (reply : Reply) → new ≡ record old { work = work } → work ≡ at_rest
    → answer_of verdicts old.plan (past old.steps) old.words ask ≡ stepped own (past old.steps) reply → own ≡ Some check
    → Handles verdicts old new seat ask (refused check)
handles_unowned verdicts old new work seat ask own check reply begin rest answers refuses =
    handles_refused verdicts old new work seat ask _ begin rest (inl (sym (answers ∙ own_refused (past old.steps) own check reply refuses)))

-- what was counted since the start of a call
pub told_since : (start work : Work) → start ≡ at_rest → work.told ≡ start.told → work.told ≡ 0
told_since start work rest told = told ∙ ap (λ (w : Work). w.told) rest

pub asked_since : (start work : Work) (n : ℕ) → start ≡ at_rest → work.asked ≤ start.asked + n → work.asked ≤ n
asked_since start work n rest asked = omega (arith, asked, ap (λ (w : Work). w.asked) rest)

abbrev opened_as : ℕ → Answer
opened_as n = Ok (Fh (record { 0 = n }))

-- an opening tells nobody
pub handles_open : (verdicts : Verdicts) (old : DeviceData) (work : Work) (seat handler : ℕ) (fh : FhId) → work ≡ at_rest
    → step_check (past old.steps) (open_check old.plan (past old.steps) handler) ≡ None → fh.0 ≡ length old.steps
    → Handles verdicts old (with_step (record old { work = work }) seat (OpenFh handler)) seat (asks.OpenFh handler) (Ok (Fh fh))
handles_open verdicts old work seat handler fh rest is number = record {
  plan = refl;
  answers = inl (sym (step_answered (past old.steps) _ _ is ∙ ap opened_as (length_past old.steps ∙ sym number)));
  refused = λ e. cc;
  steps = refl;
  words = λ k lt same. refl;
  notified = ap (λ (w : Work). w.told) rest ∙ sym (notified_none old.plan (step_changes verdicts old.plan (past old.steps) (Some (OpenFh handler))) (λ c. refl));
  asked = asked_at_rest work _ rest;
  asked_all = λ _. omega arith;
}

-- a close tells nobody
pub handles_close : (verdicts : Verdicts) (old : DeviceData) (work : Work) (seat : ℕ) (fh : FhId) → work ≡ at_rest
    → step_check (past old.steps) (through (past old.steps) fh None) ≡ None
    → Handles verdicts old (with_step (record old { work = work }) seat (CloseFh fh)) seat (asks.CloseFh fh) (Ok Done)
handles_close verdicts old work seat fh rest is = record {
  plan = refl;
  answers = inl (sym (step_answered (past old.steps) _ _ is));
  refused = λ e. cc;
  steps = refl;
  words = λ k lt same. refl;
  notified = ap (λ (w : Work). w.told) rest ∙ sym (notified_none old.plan (step_changes verdicts old.plan (past old.steps) (Some (CloseFh fh))) (λ c. refl));
  asked = asked_at_rest work _ rest;
  asked_all = λ _. omega arith;
}

-- a grab tells nobody
pub handles_grab : (verdicts : Verdicts) (old : DeviceData) (start work : Work) (seat c : ℕ) (on : Bool) → start ≡ at_rest → work.told ≡ start.told → work.asked ≤ start.asked + cluster_asks old.plan (past old.steps) (cluster_of old.plan c)
    → step_check (past old.steps) (grab_check old.plan c) ≡ None
    → Handles verdicts old (with_step (record old { work = work }) seat (Grab c on)) seat (asks.Grab c on) (Ok Done)
handles_grab verdicts old start work seat c on rest untold asked is = record {
  plan = refl;
  answers = inl (sym (step_answered (past old.steps) _ _ is));
  refused = λ e. cc;
  steps = refl;
  words = λ k lt same. refl;
  notified = told_since start work rest untold ∙ sym (notified_none old.plan (step_changes verdicts old.plan (past old.steps) (Some (Grab c on))) (λ c. refl));
  asked = asked_since start work _ rest asked;
  asked_all = λ _. omega arith;
}

-- a call that changes nothing, where validators were asked
pub handles_asked : (verdicts : Verdicts) (old new : DeviceData) (start work : Work) (seat : ℕ) (ask : Ask) (answer : Answer) → new ≡ record old { work = work } → start ≡ at_rest
    → work.told ≡ start.told → work.asked ≤ start.asked + may_ask verdicts old.plan (past old.steps) ask answer → (IsOk answer → with_calls (must_ask old.plan (past old.steps) ask) 0 ≤ work.asked) → taken verdicts old.plan (past old.steps) ask answer ≡ None
    → MayAnswer verdicts old.plan (past old.steps) old.words ask answer → Handles verdicts old new seat ask answer
handles_asked verdicts old new start work seat ask answer begin rest told asked all none may =
    rw begin (handles_none verdicts old work seat ask answer (told_since start work rest told) (asked_since start work _ rest asked) all none may)

-- a try takes no step
pub taken_try : (verdicts : Verdicts) (plan : PlanData) (older : Past) (fh : FhId) (which : ℕ) (request : Option RequestId) (list : List ExtControl) (answer : Answer)
    → taken verdicts plan older (asks.TryCtrls fh which request list) answer ≡ None
taken_try verdicts plan older fh which request list (Ok reply) = refl
taken_try verdicts plan older fh which request list (Err fault) = refl

-- a forecast takes no step
pub taken_forecast : (verdicts : Verdicts) (plan : PlanData) (older : Past) (place : ℕ) (answer : Answer) → taken verdicts plan older (asks.Forecast place) answer ≡ None
taken_forecast verdicts plan older place (Ok reply) = refl
taken_forecast verdicts plan older place (Err fault) = refl

pub handles_forecast : (verdicts : Verdicts) (old : DeviceData) (work : Work) (seat place : ℕ) (answer : Answer) → work ≡ at_rest
    → MayAnswer verdicts old.plan (past old.steps) old.words (asks.Forecast place) answer
    → Handles verdicts old (record old { work = work }) seat (asks.Forecast place) answer
handles_forecast verdicts old work seat place answer rest may =
    handles_none verdicts old work seat _ answer (ap (λ (w : Work). w.told) rest) (asked_at_rest work _ rest) (λ _. omega arith) (taken_forecast verdicts old.plan (past old.steps) place answer) may

-- A call whose step gives controls values: what it owes is what its step changes.
pub handles_changed : (verdicts : Verdicts) (told : Words) (old between new : DeviceData) (work : Work) (seat : ℕ) (ask : Ask) (step : Step) (applied : List Pair) (most : ℕ) (reply : Reply) → between ≡ record old { work = work }
    → MayAnswer verdicts old.plan (past old.steps) old.words ask (Ok reply) → step_of verdicts old.plan (past old.steps) ask ≡ Some step → pairs_applied verdicts old.plan (past old.steps) step ≡ Some applied
    → work.asked + most ≤ may_ask verdicts old.plan (past old.steps) ask (Ok reply) → with_calls (must_ask old.plan (past old.steps) ask) 0 ≤ new.work.asked → IsChangedBy verdicts told between new seat step applied most
    → Handles verdicts old new seat ask (Ok reply)
handles_changed verdicts told old between new work seat ask step applied most reply begin may adds acts bounded least does =
    let done : IsChangedBy verdicts told (record old { work = work }) new seat step applied most = rw begin at does in
    let changing : (k : ℕ) → list_any (step_changes verdicts old.plan (past old.steps) (step_of verdicts old.plan (past old.steps) ask)) (members old.plan k) ≡ moves verdicts old.plan (past old.steps) step applied k = λ k.
    ap (λ (o : Option Step). list_any (step_changes verdicts old.plan (past old.steps) o) (members old.plan k)) adds
    ∙ ap (λ (o : Option (List Pair)). list_any (changes old.plan (now verdicts old.plan (past old.steps)) (values_then verdicts old.plan (past old.steps) step) o) (members old.plan k)) acts
    ∙ changed_row old.plan (now verdicts old.plan (past old.steps)) (values_then verdicts old.plan (past old.steps) step) applied (members old.plan k) in
    record {
      plan = done.plan;
      answers = may;
      refused = λ e. cc;
      steps = done.steps ∙ rw adds refl;
      words = λ k lt same. done.words.others k (λ _. sym (changing k) ∙ same);
      notified =
          done.notified
          ∙ notified_same old.plan (moves verdicts old.plan (past old.steps) step applied) (λ k. list_any (step_changes verdicts old.plan (past old.steps) (step_of verdicts old.plan (past old.steps) ask)) (members old.plan k)) (λ k lt. sym (changing k));
      asked = omega (arith, done.asked, bounded);
      asked_all = λ _. least;
    }

-- a set that is accepted
pub handles_set : (verdicts : Verdicts) (told : Words) (old between new : DeviceData) (start work : Work) (seat : ℕ) (fh : FhId) (which : ℕ) (request : Option RequestId) (list : List ExtControl) (touch : TouchedData) (controls : List ExtControl)
    → between ≡ record old { work = work } → start ≡ at_rest → work.told ≡ start.told → work.asked ≤ start.asked + list_most verdicts old.plan (past old.steps) fh which request true list (list_touches old.plan (past old.steps) fh which list)
    → CanBeSet verdicts old.plan (past old.steps) fh (meant (which_or (which_of which)) request) touch → touch.pairs ≡ list_pairs old.plan (past old.steps) fh which list
    → set_list_answer verdicts old.plan (past old.steps) fh which request list ≡ Ok (Controls touch.answers) → meant (which_or (which_of which)) request ≡ None → controls ≡ touch.answers → with_calls (judged_count old.plan (touched old.plan (list_pairs old.plan (past old.steps) fh which list))) 0 ≤ work.asked → SetsAll verdicts told between new seat fh touch
    → Handles verdicts old new seat (asks.SetCtrls fh which request list) (Ok (Controls controls))
handles_set verdicts told old between new start work seat fh which request list touch controls begin rest untold asked sets own_pairs accepted current reply all does =
    let done : SetsAll verdicts told (record old { work = work }) new seat fh touch = rw begin at does in
    let queued : List QueuedData = queued_frames old.plan (past old.steps) in
    let own : List ℕ = touched old.plan (list_pairs old.plan (past old.steps) fh which list) in
    let passed = set_opened verdicts old.plan (past old.steps) fh which request list touch.answers accepted in
    let judged : work.asked ≤ start.asked + length own = subst (λ (o : Option Refusal). work.asked ≤ start.asked + none_where o (length own)) passed.1 asked in
    let renewed : named_by_frames old.plan queued (clusters_of touch.rows) ≡ forecast_asks old.plan (past old.steps) (which_or (which_of which)) own =
    ap (named_by_frames old.plan queued) (sets.judged.each_once ∙ ap (touched old.plan) own_pairs) ∙ sym (forecasts_asked verdicts old.plan (past old.steps) fh which request own passed.0 current) in
    handles_changed verdicts told old (record old { work = work }) new work seat (asks.SetCtrls fh which request list) (Set fh touch.pairs) touch.pairs (named_by_frames old.plan queued (clusters_of touch.rows)) (Controls controls) refl
    (inl (ap (λ (l : List ExtControl). Ok (Controls l)) reply ∙ sym accepted))
    (ap Some (set_step (meant (which_or (which_of which)) request) fh (list_pairs old.plan (past old.steps) fh which list) current) ∙ ap (λ (pairs : List Pair). Some (Set fh pairs)) (sym own_pairs)) refl
    (subst (λ (o : Option Refusal). work.asked + named_by_frames old.plan queued (clusters_of touch.rows) ≤ none_where o (length own + forecast_asks old.plan (past old.steps) (which_or (which_of which)) own)) (sym passed.1)
    (omega (arith, renewed, asked_since start work _ rest judged))) (omega (arith, done.1, all)) done.0

-- an accepted list asked all that it must
pub asked_all : (asked n : ℕ) (start : Work) → start ≡ at_rest → asked ≡ with_calls n start.asked → with_calls n 0 ≤ asked
asked_all asked n start rest is = rw (is, ap (λ (w : Work). w.asked) rest) (omega arith)

pub tried_all : (answer : Answer) (asked n : ℕ) (start : Work) → start ≡ at_rest → OnOk answer (asked ≡ with_calls n start.asked) → IsOk answer → with_calls n 0 ≤ asked
tried_all (Ok reply) asked n start rest is ok = asked_all asked n start rest is
tried_all (Err fault) asked n start rest is ok = cc
