-- Steps that leave file handles, grabs, ranges and values: when they may follow, and what a call that adds one does.
use Rattle.std.proofs.Common.{◌≡◌, ℕ, ◌+◌, ◌≤◌, Bool, true, false, List, length, is_some, if◌then◌else◌, Option, None, Some, Ok, Err, IsOk, refl, ap, sym, ◌∙◌, arith, inl, inr}
use Rattle.history.specs.Past.{past}
use Rattle.ctrl_types.specs.declared.check.Check.{Check}
use Rattle.ctrl_types.specs.declared.check.Check.TheVariants.{ListRequestNotComplete, MemoryRefused, NotComplete}
use Rattle.ctrl_types.specs.Checks.{errno_of}
use Rattle.ctrl_types.specs.declared.ids.Pair.{Pair}
use Rattle.ctrl_calls.specs.Meanings.{Verdicts, Words}
use Rattle.ctrl_calls.specs.declared.work.Work.{Work}
use Rattle.ctrl_handlers.specs.Plan.{PlanData}
use Rattle.req_book.specs.Requests.{RequestData, RequestsData, find, is_complete}
use Rattle.frame_queue.specs.Frames.{FramesData}
use Rattle.device_history.specs.declared.ask.Ask.{Ask}
use Rattle.device_history.specs.declared.ask.Reply.{Reply}
use Rattle.device_history.specs.declared.ask.Step.{Step}
use Rattle.device_history.specs.declared.ask.Step.TheVariants as steps
use Rattle.device_history.specs.Steps.{History, Past}
use Rattle.device_history.specs.Refusals.{refused, step_check}
use Rattle.device_history.specs.Values.{now, values_after}
use Rattle.device_history.specs.Words.{changes}
use Rattle.device_history.specs.Forecasts.{queued_frames}
use Rattle.device_history.specs.Snapshots.{applied, before_completion, frames, request, request_in, snapshot}
use Rattle.device_history.specs.Requests.{asked, state}
use Rattle.std.specs.Option.{option_map}
use Rattle.req_book.specs.Refusals as book
use Rattle.req_book.specs.declared.state.RequestState.{RequestState}
use Rattle.device_history.specs.declared.ask.Reply.TheVariants.{Controls}
use Rattle.device_history.specs.Answers.{MayAnswer, step_of}
use Rattle.device_history.proofs.FrameLaw.{found_request}
use Rattle.ctrl_lists.specs.Touched.{with_calls, TouchedData, touched, judged_count}
use Rattle.device_state.specs.Device.{DeviceData, Handles, list_most, list_touches, may_ask, must_ask, with_step, step_changes}
use Rattle.device_parts.specs.QueuedFrames.{asks_at_most}
use Rattle.device_parts.specs.Leaving.{leaves_controls}
use Rattle.device_state.specs.Entering.{AddsStep}
use Rattle.device_state.specs.Kept.{Caches, IsKept}
use Rattle.device_state.proofs.HandleLemmas.{at_rest, asked_since, handles_asked, handles_set, told_since}
use Rattle.device_state.proofs.BoundLemmas.{set_at_least}
use Rattle.device_state.proofs.SettingLemmas.{store_adds}
use Rattle.device_state.proofs.StepLemmas.{step_accepted, step_answered, step_passes, step_refused}
use Rattle.device_state.specs.Setting.{CanBeSet, SetsList}
use Rattle.device_history.specs.Lists.{list_pairs, meant, request_check, set_list_answer, which_or}
use Rattle.ctrl_types.specs.Classes.{which_of}
use Rattle.ctrl_types.specs.declared.ids.ExtControl.{ExtControl}
use Rattle.ctrl_types.specs.declared.ids.FhId.{FhId}
use Rattle.ctrl_types.specs.declared.ids.RequestId.{RequestId}
use Rattle.device_history.specs.declared.ask.Ask.TheVariants as asks
use Rattle.device_state.proofs.SetLemmas.{notified_none}
use Rattle.req_book.specs.declared.state.RequestState.TheVariants.{Idle, Queued, Running, Complete}
use Rattle.ctrl_types.specs.declared.value.CtrlValue.{CtrlValue}
use Rattle.req_book.proofs.SettingLemmas.{snapshot_long}
use Rattle.device_history.proofs.PresentLemmas.{length_now}
use Rattle.device_parts.proofs.LeavingLemmas.{acted_controls_left}

-- a check refuses it
pub entered_refused : (verdicts : Verdicts) (plan : PlanData) (older : Past) (words : List ℕ) (ask : Ask) (own : Option Check) (check : Check) (step : Step) (reply : Reply)
    → AddsStep verdicts plan older words ask own step reply → step_check older own ≡ Some check → MayAnswer verdicts plan older words ask (refused check)
entered_refused verdicts plan older words ask own check step reply is refuses = inl (sym (is.answers ∙ step_refused older own check reply refuses))

-- want of memory
pub entered_lacks : (verdicts : Verdicts) (plan : PlanData) (older : Past) (words : List ℕ) (ask : Ask) (own : Option Check) (step : Step) (reply : Reply)
    → AddsStep verdicts plan older words ask own step reply → step_check older own ≡ None → MayAnswer verdicts plan older words ask (refused MemoryRefused)
entered_lacks verdicts plan older words ask own step reply is free = inr (is.lacks (step_accepted older own reply free), sym is.plain)

-- such a step changes no control
left_unchanged : (verdicts : Verdicts) (plan : PlanData) (older : Past) (step : Step) (c : ℕ) → leaves_controls step ≡ true → step_changes verdicts plan older (Some step) c ≡ false
left_unchanged verdicts plan older step c leaves =
    ap (λ (l : Option (List Pair)). changes plan (now verdicts plan older) (values_after verdicts plan older step (now verdicts plan older)) l c) (acted_controls_left verdicts plan older step leaves)

-- a call that adds one
pub handles_controls_left : (verdicts : Verdicts) (old : DeviceData) (work : Work) (seat : ℕ) (ask : Ask) (step : Step) (reply : Reply) → work.told ≡ 0 → work.asked ≤ may_ask verdicts old.plan (past old.steps) ask (Ok reply)
    → (with_calls (must_ask old.plan (past old.steps) ask) 0 ≤ work.asked) → MayAnswer verdicts old.plan (past old.steps) old.words ask (Ok reply)
    → step_of verdicts old.plan (past old.steps) ask ≡ Some step → leaves_controls step ≡ true
    → Handles verdicts old (with_step (record old { work = work }) seat step) seat ask (Ok reply)
handles_controls_left verdicts old work seat ask step reply told asked all may adds leaves = record {
  plan = refl;
  answers = may;
  refused = λ e. cc;
  steps = rw adds refl;
  words = λ k lt same. refl;
  notified = told ∙ sym (rw adds (notified_none old.plan (step_changes verdicts old.plan (past old.steps) (Some step)) (λ c. left_unchanged verdicts old.plan (past old.steps) step c leaves)));
  asked = asked;
  asked_all = λ _. all;
}

pub handles_entered : (verdicts : Verdicts) (old : DeviceData) (start work : Work) (seat : ℕ) (ask : Ask) (own : Option Check) (step : Step) (reply : Reply) → start ≡ at_rest → work.told ≡ start.told
    → work.asked ≤ start.asked + asks_at_most old.plan (frames verdicts old.plan (past old.steps)) step (queued_frames old.plan (past old.steps)) → AddsStep verdicts old.plan (past old.steps) old.words ask own step reply → step_check (past old.steps) own ≡ None
    → Handles verdicts old (with_step (record old { work = work }) seat step) seat ask (Ok reply)
handles_entered verdicts old start work seat ask own step reply rest untold asked is free =
    handles_controls_left verdicts old work seat ask step reply (told_since start work rest untold) (omega (arith, asked_since start work _ rest asked, is.most (Ok reply))) (rw is.asks_nobody (omega arith))
    (inl (sym (is.answers ∙ step_answered (past old.steps) own reply free))) (is.adds (step_passes (past old.steps) own free).0) is.leaves

-- one for which there is no memory
pub handles_lacking : (verdicts : Verdicts) (old new : DeviceData) (start work : Work) (seat : ℕ) (ask : Ask) (own : Option Check) (step : Step) (reply : Reply) → new ≡ record old { work = work } → start ≡ at_rest → work.told ≡ start.told
    → work.asked ≤ start.asked + asks_at_most old.plan (frames verdicts old.plan (past old.steps)) step (queued_frames old.plan (past old.steps)) → AddsStep verdicts old.plan (past old.steps) old.words ask own step reply → step_check (past old.steps) own ≡ None
    → Handles verdicts old new seat ask (refused MemoryRefused)
handles_lacking verdicts old new start work seat ask own step reply begin rest untold asked is free =
    handles_asked verdicts old new start work seat ask (refused MemoryRefused) begin rest untold (omega (arith, asked, is.most (refused MemoryRefused))) (λ e. cc) refl (entered_lacks verdicts old.plan (past old.steps) old.words ask own step reply is free)

-- the request under an id in the requests that are kept
pub found : (verdicts : Verdicts) (told : Words) (plan : PlanData) (entries : History) (caches : Caches) (r : ℕ) → IsKept verdicts told plan entries caches → (f : FramesData) → f ≡ caches.state.frames → (kept : RequestsData) → kept ≡ f.requests
    → find kept.all r ≡ request verdicts plan (past entries) r
found verdicts told plan entries caches r is f own kept lent =
    ap (λ (rs : RequestsData). find rs.all r) lent ∙ ap (λ (f : FramesData). find f.requests.all r) (own ∙ is.made.frames) ∙ found_request verdicts plan (past entries) r is.made.legal

-- its state
pub state_is : (verdicts : Verdicts) (plan : PlanData) (older : Past) (r : ℕ) → option_map (λ (q : RequestData). q.state) (request verdicts plan older r) ≡ state older r
unfolding request
state_is verdicts plan older r = by (state older r)
  where
    by : (o : Option RequestState) → option_map (λ (q : RequestData). q.state) (option_map (request_in verdicts plan older r) o) ≡ o
    by None = refl
    by (Some s) = refl

-- whether it takes a list is told by its state
pub list_taken : (writes : Bool) (o : Option RequestData) (s : RequestState) (check : Option Check) → Some s ≡ option_map (λ (q : RequestData). q.state) o → ((q : RequestData) → q.state ≡ s → check ≡ request_check writes (Some q)) → check ≡ request_check writes o
list_taken writes None s check is each = cc
list_taken writes (Some q) s check is each = each q (own q.state s is)
  where
    own : (a b : RequestState) → Some b ≡ Some a → a ≡ b
    own a b h = cc

pub list_missing : (writes : Bool) (o : Option RequestData) → None ≡ option_map (λ (q : RequestData). q.state) o → request_check writes None ≡ request_check writes o
list_missing writes None is = refl
list_missing writes (Some q) is = cc

-- a list that stores its pairs in a request
pub handles_store : (verdicts : Verdicts) (old : DeviceData) (start work : Work) (seat : ℕ) (fh : FhId) (which : ℕ) (request : Option RequestId) (stored : RequestId) (list : List ExtControl) (touch : TouchedData) (controls : List ExtControl)
    → start ≡ at_rest → work.told ≡ start.told → work.asked ≤ start.asked + list_most verdicts old.plan (past old.steps) fh which request true list (list_touches old.plan (past old.steps) fh which list)
    → touch.pairs ≡ list_pairs old.plan (past old.steps) fh which list → set_list_answer verdicts old.plan (past old.steps) fh which request list ≡ Ok (Controls touch.answers)
    → meant (which_or (which_of which)) request ≡ Some stored → controls ≡ touch.answers
    → with_calls (judged_count old.plan (touched old.plan (list_pairs old.plan (past old.steps) fh which list))) 0 ≤ work.asked
    → Handles verdicts old (with_step (record old { work = work }) seat (steps.Store stored touch.pairs)) seat (asks.SetCtrls fh which request list) (Ok (Controls controls))
handles_store verdicts old start work seat fh which request stored list touch controls rest untold asked own_pairs accepted through reply all =
    handles_controls_left verdicts old work seat (asks.SetCtrls fh which request list) (steps.Store stored touch.pairs) (Controls controls) (told_since start work rest untold)
    (omega (arith, asked_since start work _ rest asked, set_at_least verdicts old.plan (past old.steps) fh which request list)) all
    (inl (ap (λ (l : List ExtControl). Ok (Controls l)) reply ∙ sym accepted)) (store_adds verdicts old.plan (past old.steps) fh which request stored list touch own_pairs through) refl

-- a list that is accepted
pub handles_list : (verdicts : Verdicts) (told : Words) (old between new : DeviceData) (start work : Work) (seat : ℕ) (fh : FhId) (which : ℕ) (request : Option RequestId) (list : List ExtControl) (touch : TouchedData) (controls : List ExtControl)
    → between ≡ record old { work = work } → start ≡ at_rest → work.told ≡ start.told → work.asked ≤ start.asked + list_most verdicts old.plan (past old.steps) fh which request true list (list_touches old.plan (past old.steps) fh which list)
    → CanBeSet verdicts old.plan (past old.steps) fh (meant (which_or (which_of which)) request) touch → touch.pairs ≡ list_pairs old.plan (past old.steps) fh which list
    → set_list_answer verdicts old.plan (past old.steps) fh which request list ≡ Ok (Controls touch.answers) → controls ≡ touch.answers → with_calls (judged_count old.plan (touched old.plan (list_pairs old.plan (past old.steps) fh which list))) 0 ≤ work.asked
    → SetsList verdicts told between new seat fh (meant (which_or (which_of which)) request) touch
    → Handles verdicts old new seat (asks.SetCtrls fh which request list) (Ok (Controls controls))
handles_list verdicts told old between new start work seat fh which request list touch controls begin rest untold asked sets own_pairs accepted reply all does = by (meant (which_or (which_of which)) request) refl does
  where
    by : (o : Option RequestId) → meant (which_or (which_of which)) request ≡ o → SetsList verdicts told between new seat fh o touch → Handles verdicts old new seat (asks.SetCtrls fh which request list) (Ok (Controls controls))
    by None is h = handles_set verdicts told old between new start work seat fh which request list touch controls begin rest untold asked sets own_pairs accepted is reply all h
    by (Some stored) is h = rw (h, begin) (handles_store verdicts old start work seat fh which request stored list touch controls rest untold asked own_pairs accepted is reply all)

-- the values that were read of a complete request are its snapshot
pub snapshot_is : (verdicts : Verdicts) (plan : PlanData) (older : Past) (r : ℕ) (values : List CtrlValue) → book.snapshot_answer (request verdicts plan older r) ≡ Ok values → values ≡ snapshot verdicts plan older r
unfolding request
snapshot_is verdicts plan older r values is = by (state older r) is
  where
    by : (o : Option RequestState) → book.snapshot_answer (option_map (request_in verdicts plan older r) o) ≡ Ok values → values ≡ snapshot verdicts plan older r
    by None h = cc
    by (Some Idle) h = cc
    by (Some Queued) h = cc
    by (Some Running) h = cc
    by (Some Complete) h = cc

-- there is one for each control
pub snapshot_each : (verdicts : Verdicts) (plan : PlanData) (older : Past) (r : ℕ) → length (snapshot verdicts plan older r) ≡ length plan.controls
snapshot_each verdicts plan older r = snapshot_long (applied verdicts plan older r) (now verdicts plan (before_completion r older)) ∙ length_now verdicts plan (before_completion r older)

-- the pairs that were read of a request are what it asks for
pub asked_is : (verdicts : Verdicts) (plan : PlanData) (older : Past) (r : ℕ) (pairs : List Pair) → book.asked_answer (request verdicts plan older r) ≡ Ok pairs → pairs ≡ asked plan older r
unfolding request
asked_is verdicts plan older r pairs is = by (state older r) is
  where
    by : (o : Option RequestState) → book.asked_answer (option_map (request_in verdicts plan older r) o) ≡ Ok pairs → pairs ≡ asked plan older r
    by None h = cc
    by (Some s) h = cc

-- a request that refuses no list that reads has values to be read
pub granted : (o : Option RequestData) → request_check false o ≡ None → IsOk (book.snapshot_answer o)
granted None passes = cc
granted (Some r) passes = by (is_complete r.state) passes
  where
    by : (b : Bool) → (if b then None else Some ListRequestNotComplete) ≡ None → IsOk (if b then Ok r.snapshot else Err (errno_of NotComplete))
    by true h = refl
    by false h = cc

-- one that refuses no list that writes is there
pub storable_there : (o : Option RequestData) → request_check true o ≡ None → is_some o ≡ true
storable_there None h = cc
storable_there (Some r) h = refl

-- a request that is there is among those that are kept
pub held : (verdicts : Verdicts) (told : Words) (plan : PlanData) (entries : History) (caches : Caches) (r : ℕ) → IsKept verdicts told plan entries caches → (f : FramesData) → f ≡ caches.state.frames → (kept : RequestsData) → kept ≡ f.requests
    → is_some (state (past entries) r) ≡ true → is_some (find kept.all r) ≡ true
unfolding request
held verdicts told plan entries caches r is f own kept lent there = ap is_some (found verdicts told plan entries caches r is f own kept lent) ∙ by (state (past entries) r) there
  where
    by : (o : Option RequestState) → is_some o ≡ true → is_some (option_map (request_in verdicts plan (past entries) r) o) ≡ true
    by None h = cc
    by (Some s) h = refl
