-- The requests and the queue of frames after one more entry that fits.
use Rattle.std.proofs.Common.{◌≡◌, ℕ, ◌∙◌, Bool, true, false, cond, List, [], ◌∷◌, ◌++◌, length, map, filter_map, Option, None, Some, nat_eq, is_some, eq-eqb, refl, sym, ap, subst, append-nil, arith, if◌then◌else◌}
use Rattle.std.specs.List.{list_any, cons_option}
use Rattle.std.specs.Option.{option_map}
use Rattle.std.proofs.lemmas.Bool.{or_parts}
use Rattle.std.proofs.lemmas.Bool.Decides.{nat_tests}
use Rattle.std.proofs.lemmas.List.Elements.{filter_map-append}
use Rattle.std.proofs.lemmas.List.Folds.{list_any-append}
use Rattle.history.specs.declared.entry.Entry.{Entry}
use Rattle.ctrl_types.specs.declared.value.CtrlValue.{CtrlValue}
use Rattle.ctrl_types.specs.declared.check.Check.TheVariants.{NotIdle, RequestRunning}
use Rattle.ctrl_types.specs.declared.ids.Pair.{Pair}
use Rattle.ctrl_calls.specs.Meanings.{Verdicts}
use Rattle.ctrl_handlers.specs.Plan.{PlanData}
use Rattle.req_book.specs.declared.state.RequestState.{RequestState}
use Rattle.req_book.specs.declared.state.RequestState.TheVariants as states
use Rattle.req_book.specs.Requests.{RequestData, RequestsData, find, new_request, with_changed, with_pairs, with_buffer, cleared, queued, begun, completed, is_idle, is_number, without}
use Rattle.req_book.specs.Refusals.{store_check, buffer_check, queue_check, clear_check}
use Rattle.frame_queue.specs.Frames.{FramesData, QueueFitsRequests, AreOnce, is_in, is_queued, is_running, after_begin, after_complete, ended_request, cancel_check}
use Rattle.frame_queue.proofs.FrameLemmas.{queued_kept, begun_kept, completed_kept, cancelled_kept, off_kept, state_kept, rests, cleared_kept, freed_kept, added_kept}
use Rattle.device_history.specs.declared.ask.Step.{Step}
use Rattle.device_history.specs.declared.ask.Step.TheVariants.{Alloc, Store, Buffer, Queue, Begin, Complete, Cancel, StreamOff, Reinit, Free}
use Rattle.device_history.specs.Steps.{Past}
use Rattle.device_history.specs.Requests.{made, ever_made, state, last_state_left, is_off_since}
use Rattle.device_history.specs.Frames.{all_but, queue, queue_after, last_begun, running, running_after, unless_equal, first_of}
use Rattle.device_history.specs.Values.{now}
use Rattle.device_history.specs.Snapshots.{request_in, request, requests, frames, begun_pairs}
use Rattle.device_history.specs.FrameSteps.{frames_after, FitsFrames, request_after, changed_if_named}
use Rattle.device_history.proofs.AllFit.{AllFit}
use Rattle.device_history.proofs.RequestLemmas.{request_more}
use Rattle.device_history.proofs.MadeLemmas.{AreNamed, made_once, next_not_made, find_listed, same_listed, same_but, all_changed, changed_listed, freed_listed, whole}
use Rattle.device_history.proofs.QueueingLemmas.{ever_queued_start}
use Rattle.device_history.proofs.QueueLemmas.{queue_more, running_more}

-- a request has its number as its id
pub request_named : (verdicts : Verdicts) (plan : PlanData) (past : Past) → AreNamed (request verdicts plan past)
unfolding request
request_named verdicts plan past j q is = by (state past j) is
  where
    by : (s : Option RequestState) → option_map (request_in verdicts plan past j) s ≡ Some q → q.id ≡ j
    by None there = cc
    by (Some s) there = sym (ap (λ (x : RequestData). x.id) (same (request_in verdicts plan past j s) q there))
      where
        same : (a b : RequestData) → Some a ≡ Some b → a ≡ b
        same a b h = cc

nothing : (b : Bool) → ◌≡◌ {A = Option RequestData} (cond b None None) None
nothing true = refl
nothing false = refl

-- a step makes no request but that of an allocation
pub after_none : (verdicts : Verdicts) (plan : PlanData) (older : Past) (n : ℕ) (step : Step) (r : ℕ) → list_any (nat_eq r) (made n step) ≡ false → request_after verdicts plan older n step r None ≡ None
after_none verdicts plan older n Alloc r none = grind (arith, nat_tests, none)
after_none verdicts plan older n (Store q pairs) r none = nothing (nat_eq q.0 r)
after_none verdicts plan older n (Buffer q number) r none = nothing (nat_eq q.0 r)
after_none verdicts plan older n (Queue q) r none = nothing (nat_eq q.0 r)
after_none verdicts plan older n (Begin q) r none = nothing (nat_eq q.0 r)
after_none verdicts plan older n (Complete q) r none = nothing (nat_eq q.0 r)
after_none verdicts plan older n (Cancel q) r none = nothing (nat_eq q.0 r)
after_none verdicts plan older n (Reinit q) r none = nothing (nat_eq q.0 r)
after_none verdicts plan older n (Free q) r none = nothing (nat_eq q.0 r)
after_none verdicts plan older n _ r none = refl

-- what was never made isn't there
pub never_made : (verdicts : Verdicts) (plan : PlanData) (past : Past) (r : ℕ) → AllFit verdicts plan past → list_any (nat_eq r) (ever_made past) ≡ false → request verdicts plan past r ≡ None
unfolding request ever_made AllFit is_off_since last_state_left
never_made verdicts plan [] r fit none = refl
never_made verdicts plan (e ∷ older) r fit none =
    let parts = or_parts (list_any (nat_eq r) (ever_made older)) (list_any (nat_eq r) (made (length older) e.step)) (sym (list_any-append (nat_eq r) (ever_made older) (made (length older) e.step)) ∙ none) in
    request_more verdicts plan e older fit.0 fit.1 r
    ∙ ap (request_after verdicts plan older (length older) e.step r) (never_made verdicts plan older r fit.0 parts.0)
    ∙ after_none verdicts plan older (length older) e.step r parts.1

-- the request that an id finds
pub find_request : (verdicts : Verdicts) (plan : PlanData) (past : Past) (r : ℕ) → AllFit verdicts plan past → find (requests verdicts plan past) r ≡ request verdicts plan past r
find_request verdicts plan past r fit = find_listed (request verdicts plan past) (ever_made past) r (request_named verdicts plan past) ∙ by (list_any (nat_eq r) (ever_made past)) refl
  where
    by : (b : Bool) → list_any (nat_eq r) (ever_made past) ≡ b → cond b (request verdicts plan past r) None ≡ request verdicts plan past r
    by true is = refl
    by false is = sym (never_made verdicts plan past r fit is)

-- before the first entry
pub frames_start : (verdicts : Verdicts) (plan : PlanData) → frames verdicts plan [] ≡ record { requests = record { controls = length plan.controls; all = [] }; queue = []; running = None }
unfolding ever_made last_begun
frames_start verdicts plan = rw ever_queued_start refl

start_kept : (controls : ℕ) → QueueFitsRequests (record { requests = record { controls = controls; all = [] }; queue = []; running = None })
start_kept controls = record { once = tt; waits = λ id. refl; runs = λ id. refl; buffers = λ id r there waiting. none r there }
  where
    none : (r : RequestData) → None ≡ Some r → is_some r.buffer ≡ true
    none r h = cc

-- a request after one more entry, whose step is this
after_step : (verdicts : Verdicts) (plan : PlanData) (e : Entry Step) (older : Past) (step : Step) → e.step ≡ step → AllFit verdicts plan older → FitsFrames verdicts plan older step
    → (j : ℕ) → request verdicts plan (e ∷ older) j ≡ request_after verdicts plan older (length older) step j (request verdicts plan older j)
after_step verdicts plan e older step is fit fits j =
    request_more verdicts plan e older fit (subst (FitsFrames verdicts plan older) (sym is) fits) j ∙ ap (λ (s : Step). request_after verdicts plan older (length older) s j (request verdicts plan older j)) is

-- what a step that makes no request makes of those that there are
requests_more : (verdicts : Verdicts) (plan : PlanData) (e : Entry Step) (older : Past) (step : Step) → e.step ≡ step → AllFit verdicts plan older → FitsFrames verdicts plan older step → made (length older) step ≡ []
    → requests verdicts plan (e ∷ older) ≡ filter_map (λ j. request_after verdicts plan older (length older) step j (request verdicts plan older j)) (ever_made older)
unfolding ever_made
requests_more verdicts plan e older step is fit fits none =
    ap (λ ids. filter_map (request verdicts plan (e ∷ older)) (ever_made older ++ ids)) (ap (made (length older)) is ∙ none)
    ∙ ap (filter_map (request verdicts plan (e ∷ older))) (append-nil (ever_made older))
    ∙ same_listed (λ j. request_after verdicts plan older (length older) step j (request verdicts plan older j)) (request verdicts plan (e ∷ older)) (ever_made older) (λ j. after_step verdicts plan e older step is fit fits j)

-- the number of the next step is no request's
pub next_none : (verdicts : Verdicts) (plan : PlanData) (older : Past) → AllFit verdicts plan older → request verdicts plan older (length older) ≡ None
next_none verdicts plan older fit = never_made verdicts plan older (length older) fit (next_not_made older)

-- an allocation makes the last request
requests_made : (verdicts : Verdicts) (plan : PlanData) (e : Entry Step) (older : Past) → e.step ≡ Alloc → AllFit verdicts plan older → FitsFrames verdicts plan older Alloc → requests verdicts plan (e ∷ older) ≡ requests verdicts plan older ++ new_request (length older) ∷ []
unfolding ever_made
requests_made verdicts plan e older is fit fits =
    ap (λ ids. filter_map (request verdicts plan (e ∷ older)) (ever_made older ++ ids)) (ap (made (length older)) is)
    ∙ filter_map-append (request verdicts plan (e ∷ older)) (ever_made older) (length older ∷ [])
    ∙ ap (λ qs. qs ++ cons_option (request verdicts plan (e ∷ older) (length older)) []) (same_but (request verdicts plan older) (request verdicts plan (e ∷ older)) (length older) (ever_made older) others (next_not_made older))
    ∙ ap (λ o. requests verdicts plan older ++ cons_option o []) own
  where
    others : (j : ℕ) → nat_eq (length older) j ≡ false → request verdicts plan (e ∷ older) j ≡ request verdicts plan older j
    others j off = after_step verdicts plan e older Alloc is fit fits j ∙ ap (λ b. cond b (Some (new_request (length older))) (request verdicts plan older j)) off

    own : request verdicts plan (e ∷ older) (length older) ≡ Some (new_request (length older))
    own = after_step verdicts plan e older Alloc is fit fits (length older) ∙ ap (λ b. cond b (Some (new_request (length older))) (request verdicts plan older (length older))) (eq-eqb (length older) (length older) refl)

-- a step that changes one request
requests_changed : (verdicts : Verdicts) (plan : PlanData) (older : Past) (r : ℕ) (f : RequestData → RequestData)
    → whole (length plan.controls) (filter_map (λ j. changed_if_named r j f (request verdicts plan older j)) (ever_made older)) ≡ with_changed (whole (length plan.controls) (requests verdicts plan older)) r f
requests_changed verdicts plan older r f = ap (whole (length plan.controls)) (changed_listed (request verdicts plan older) (ever_made older) r f (request_named verdicts plan older) (made_once older))

-- a number that isn't there leaves the others
stays : (r : ℕ) (ids : List ℕ) → list_any (nat_eq r) ids ≡ false → all_but r ids ≡ ids
stays r [] none = refl
stays r (j ∷ ids) none =
    let parts = or_parts (nat_eq r j) (list_any (nat_eq r) ids) none in
    rw (parts.0, stays r ids parts.1) refl

-- one that stands first, and once
tail_stays : (r : ℕ) (ids : List ℕ) → list_any (nat_eq r) ids ≡ false → all_but r (r ∷ ids) ≡ ids
tail_stays r ids none = rw (eq-eqb r r refl) (stays r ids none)

runs_on : (r : ℕ) (o : Option ℕ) → is_number o r ≡ false → unless_equal r o ≡ o
runs_on r None off = refl
runs_on r (Some k) off =
    let other : nat_eq r k ≡ false = grind (arith, nat_tests, off) in
    rw other refl

-- a request neither waits nor runs
abbrev pub AtRest : Option RequestData → Type 0
AtRest o = (is_in is_queued o ≡ false) × (is_in is_running o ≡ false)

pub idle_rests : (o : Option RequestData) → is_in is_idle o ≡ true → AtRest o
idle_rests None is = (refl, refl)
idle_rests (Some q) is = by q.state is
  where
    by : (s : RequestState) → is_idle s ≡ true → (is_queued s ≡ false) × (is_running s ≡ false)
    by states.Idle is = (refl, refl)
    by states.Queued is = cc
    by states.Running is = cc
    by states.Complete is = (refl, refl)

pub store_idle : (o : Option RequestData) → store_check o ≡ None → is_in is_idle o ≡ true
store_idle None fits = cc
store_idle (Some q) fits = by (is_idle q.state) fits
  where
    by : (b : Bool) → (if b then None else Some NotIdle) ≡ None → b ≡ true
    by true h = refl
    by false h = cc

pub buffer_idle : (rs : List RequestData) (number : ℕ) (o : Option RequestData) → buffer_check rs number o ≡ None → is_in is_idle o ≡ true
buffer_idle rs number None fits = cc
buffer_idle rs number (Some q) fits = by (is_idle q.state) refl
  where
    by : (b : Bool) → is_idle q.state ≡ b → is_idle q.state ≡ true
    by true is = is
    by false is = clash (rw is at fits)
      where
        clash : Some NotIdle ≡ None → is_idle q.state ≡ true
        clash h = cc

queue_idle : (o : Option RequestData) → queue_check o ≡ None → is_in is_idle o ≡ true
queue_idle None fits = cc
queue_idle (Some q) fits = by (is_idle q.state) refl
  where
    by : (b : Bool) → is_idle q.state ≡ b → is_idle q.state ≡ true
    by true is = is
    by false is = clash (rw is at fits)
      where
        clash : Some NotIdle ≡ None → is_idle q.state ≡ true
        clash h = cc

-- a request that may be taken from the queue doesn't run; nor does one that waits, and one that runs doesn't wait
cancel_waits : (o : Option RequestData) → cancel_check o ≡ None → is_in is_running o ≡ false
cancel_waits None fits = cc
cancel_waits (Some q) fits = by (is_running q.state) refl
  where
    by : (b : Bool) → is_running q.state ≡ b → is_running q.state ≡ false
    by true is = clash (rw is at fits)
      where
        clash : Some RequestRunning ≡ None → is_running q.state ≡ false
        clash h = cc
    by false is = is

runs_only : (o : Option RequestData) → is_in is_running o ≡ true → is_in is_queued o ≡ false
runs_only None is = refl
runs_only (Some q) is = by q.state is
  where
    by : (s : RequestState) → is_running s ≡ true → is_queued s ≡ false
    by states.Idle is = refl
    by states.Queued is = cc
    by states.Running is = refl
    by states.Complete is = refl

-- the first that waits, where a begin is of it
pub first_waits : (ids : List ℕ) (r : ℕ) → first_of ids ≡ Some r → (rest : List ℕ) × (ids ≡ r ∷ rest)
first_waits [] r is = cc
first_waits (k ∷ rest) r is = (rest, ap (λ i. i ∷ rest) (same k r is))
  where
    same : (a b : ℕ) → Some a ≡ Some b → a ≡ b
    same a b h = cc

-- what is left of a begin, and of an end
pub begin_is : (f : FramesData) (applied : List Pair) (id : ℕ) (ids : List ℕ) → f.running ≡ None → f.queue ≡ id ∷ ids
    → after_begin f applied ≡ record { requests = with_changed f.requests id (begun f.requests.controls applied); queue = ids; running = Some id }
begin_is f applied id ids none first = rw (none, first) refl

pub complete_is : (f : FramesData) (values : List CtrlValue) (id : ℕ) → f.running ≡ Some id
    → after_complete f values ≡ record { requests = with_changed f.requests id (completed values); queue = f.queue; running = None }
complete_is f values id runs = rw runs refl

-- requests, a queue, and one that runs
abbrev pub seen : RequestsData → List ℕ → Option ℕ → FramesData
seen requests queue running = record { requests = requests; queue = queue; running = running }

seen_same : (a b : RequestsData) (q p : List ℕ) (r s : Option ℕ) → a ≡ b → q ≡ p → r ≡ s → seen a q r ≡ seen b p s
seen_same a b q p r s x y z = rw (x, y, z) refl

-- a step that fits keeps the queue as it is to be
after_kept : (verdicts : Verdicts) (plan : PlanData) (older : Past) (step : Step) → AllFit verdicts plan older → QueueFitsRequests (frames verdicts plan older) → FitsFrames verdicts plan older step
    → QueueFitsRequests (frames_after verdicts plan older (length older) step (frames verdicts plan older))
after_kept verdicts plan older Alloc fit kept fits = added_kept (frames verdicts plan older) (length older) kept (find_request verdicts plan older (length older) fit ∙ next_none verdicts plan older fit)
after_kept verdicts plan older (Store r pairs) fit kept fits = state_kept (frames verdicts plan older) r.0 (with_pairs (length plan.controls) pairs) kept (λ q. refl) (λ q. refl) (λ q h. h)
after_kept verdicts plan older (Buffer r number) fit kept fits = state_kept (frames verdicts plan older) r.0 (with_buffer number) kept (λ q. refl) (λ q. refl) (λ q h. refl)
after_kept verdicts plan older (Queue r) fit kept fits = queued_kept (frames verdicts plan older) r.0 kept (ap queue_check (find_request verdicts plan older r.0 fit) ∙ fits.0)
after_kept verdicts plan older (Begin r) fit kept fits =
    let first = first_waits (queue older) r.0 fits.1.1 in
    subst QueueFitsRequests (sym (begin_is (frames verdicts plan older) (begun_pairs verdicts plan older r.0) r.0 first.0 fits.1.0 first.1)) (begun_kept (frames verdicts plan older) r.0 first.0 (begun_pairs verdicts plan older r.0) kept first.1 fits.1.0)
after_kept verdicts plan older (Complete r) fit kept fits = subst QueueFitsRequests (sym (complete_is (frames verdicts plan older) (now verdicts plan older) r.0 fits.1)) (completed_kept (frames verdicts plan older) r.0 (now verdicts plan older) kept fits.1)
after_kept verdicts plan older (Cancel r) fit kept fits = cancelled_kept (frames verdicts plan older) r.0 (now verdicts plan older) kept (ap cancel_check (find_request verdicts plan older r.0 fit) ∙ fits.0)
after_kept verdicts plan older StreamOff fit kept fits = off_kept (now verdicts plan older) (frames verdicts plan older)
after_kept verdicts plan older (Reinit r) fit kept fits = cleared_kept (frames verdicts plan older) r.0 kept (ap clear_check (find_request verdicts plan older r.0 fit) ∙ fits.0)
after_kept verdicts plan older (Free r) fit kept fits = freed_kept (frames verdicts plan older) r.0 kept (ap clear_check (find_request verdicts plan older r.0 fit) ∙ fits.0)
after_kept verdicts plan older _ fit kept fits = kept

-- the requests, the queue and the running one after one more entry, where those before it are as they are to be
frames_from : (verdicts : Verdicts) (plan : PlanData) (e : Entry Step) (older : Past) → AllFit verdicts plan older → QueueFitsRequests (frames verdicts plan older) → FitsFrames verdicts plan older e.step
    → frames verdicts plan (e ∷ older) ≡ frames_after verdicts plan older (length older) e.step (frames verdicts plan older)
frames_from verdicts plan e older fit kept fits = by e.step refl fits
  where
    was : ℕ → Option RequestData
    was = request verdicts plan older

    rs : List RequestData → RequestsData
    rs qs = whole (length plan.controls) qs

    line : (step : Step) → e.step ≡ step → queue (e ∷ older) ≡ queue_after (length older) step (queue older)
    line step is = queue_more e older ∙ ap (λ (s : Step). queue_after (length older) s (queue older)) is

    turn : (step : Step) → e.step ≡ step → running (e ∷ older) ≡ running_after (length older) step (running older)
    turn step is = running_more e older ∙ ap (λ (s : Step). running_after (length older) s (running older)) is

    line_stays : (r : ℕ) → is_in is_queued (request verdicts plan older r) ≡ false → all_but r (queue older) ≡ queue older
    line_stays r off = stays r (queue older) (kept.waits r ∙ ap (is_in is_queued) (find_request verdicts plan older r fit) ∙ off)

    turn_stays : (r : ℕ) → is_in is_running (request verdicts plan older r) ≡ false → unless_equal r (running older) ≡ running older
    turn_stays r off = runs_on r (running older) (kept.runs r ∙ ap (is_in is_running) (find_request verdicts plan older r fit) ∙ off)

    one : (step : Step) → e.step ≡ step → FitsFrames verdicts plan older step → made (length older) step ≡ [] → (r : ℕ) (f : RequestData → RequestData)
        → ((j : ℕ) → request_after verdicts plan older (length older) step j (request verdicts plan older j) ≡ changed_if_named r j f (request verdicts plan older j))
        → rs (requests verdicts plan (e ∷ older)) ≡ with_changed (rs (requests verdicts plan older)) r f
    one step is fits none r f same =
        ap rs (requests_more verdicts plan e older step is fit fits none ∙ same_listed (λ j. changed_if_named r j f (request verdicts plan older j)) (λ j. request_after verdicts plan older (length older) step j (request verdicts plan older j)) (ever_made older) same)
        ∙ requests_changed verdicts plan older r f

    other : (step : Step) → e.step ≡ step → FitsFrames verdicts plan older step → made (length older) step ≡ []
        → ((j : ℕ) → request_after verdicts plan older (length older) step j (request verdicts plan older j) ≡ request verdicts plan older j)
        → queue_after (length older) step (queue older) ≡ queue older → running_after (length older) step (running older) ≡ running older
        → frames verdicts plan (e ∷ older) ≡ frames verdicts plan older
    other step is fits none same q b =
        seen_same (rs (requests verdicts plan (e ∷ older))) (rs (requests verdicts plan older)) (queue (e ∷ older)) (queue older) (running (e ∷ older)) (running older)
        (ap rs (requests_more verdicts plan e older step is fit fits none ∙ same_listed (request verdicts plan older) (λ j. request_after verdicts plan older (length older) step j (request verdicts plan older j)) (ever_made older) same))
        (line step is ∙ q) (turn step is ∙ b)

    resting : (step : Step) → e.step ≡ step → FitsFrames verdicts plan older step → made (length older) step ≡ [] → (r : ℕ) (f : RequestData → RequestData) → AtRest (request verdicts plan older r)
        → ((j : ℕ) → request_after verdicts plan older (length older) step j (request verdicts plan older j) ≡ changed_if_named r j f (request verdicts plan older j))
        → queue_after (length older) step (queue older) ≡ all_but r (queue older) → running_after (length older) step (running older) ≡ unless_equal r (running older)
        → frames verdicts plan (e ∷ older) ≡ seen (with_changed (rs (requests verdicts plan older)) r f) (queue older) (running older)
    resting step is fits none r f rest same q b =
        seen_same (rs (requests verdicts plan (e ∷ older))) (with_changed (rs (requests verdicts plan older)) r f) (queue (e ∷ older)) (queue older) (running (e ∷ older)) (running older)
        (one step is fits none r f same) (line step is ∙ q ∙ line_stays r rest.0) (turn step is ∙ b ∙ turn_stays r rest.1)

    by : (step : Step) → e.step ≡ step → FitsFrames verdicts plan older step → frames verdicts plan (e ∷ older) ≡ frames_after verdicts plan older (length older) step (frames verdicts plan older)
    by Alloc is fits =
        let none : request verdicts plan older (length older) ≡ None = next_none verdicts plan older fit in
        seen_same (rs (requests verdicts plan (e ∷ older))) (rs (requests verdicts plan older ++ new_request (length older) ∷ [])) (queue (e ∷ older)) (queue older) (running (e ∷ older)) (running older)
        (ap rs (requests_made verdicts plan e older is fit fits)) (line Alloc is ∙ line_stays (length older) (ap (is_in is_queued) none)) (turn Alloc is ∙ turn_stays (length older) (ap (is_in is_running) none))
    by (Store r pairs) is fits = resting _ is fits refl r.0 (with_pairs (length plan.controls) pairs) (idle_rests (was r.0) (store_idle (was r.0) fits.0)) (λ j. refl) refl refl
    by (Buffer r number) is fits = resting _ is fits refl r.0 (with_buffer number) (idle_rests (was r.0) (buffer_idle (requests verdicts plan older) number (was r.0) fits.0)) (λ j. refl) refl refl
    by (Queue r) is fits =
        let rest = idle_rests (was r.0) (queue_idle (was r.0) fits.0) in
        seen_same (rs (requests verdicts plan (e ∷ older))) (with_changed (rs (requests verdicts plan older)) r.0 (queued (length plan.controls))) (queue (e ∷ older)) (queue older ++ r.0 ∷ []) (running (e ∷ older)) (running older)
        (one _ is fits refl r.0 (queued (length plan.controls)) (λ j. refl)) (line _ is ∙ ap (λ ids. ids ++ r.0 ∷ []) (line_stays r.0 rest.0)) (turn _ is ∙ turn_stays r.0 rest.1)
    by (Begin r) is fits =
        let first = first_waits (queue older) r.0 fits.1.1 in
        let once : AreOnce (r.0 ∷ first.0) = subst AreOnce first.1 kept.once in
        seen_same (rs (requests verdicts plan (e ∷ older))) (with_changed (rs (requests verdicts plan older)) r.0 (begun (length plan.controls) (begun_pairs verdicts plan older r.0))) (queue (e ∷ older)) first.0 (running (e ∷ older)) (Some r.0)
        (one _ is fits refl r.0 (begun (length plan.controls) (begun_pairs verdicts plan older r.0)) (λ j. refl)) (line _ is ∙ ap (all_but r.0) first.1 ∙ tail_stays r.0 first.0 once.0) (turn _ is)
        ∙ sym (begin_is (frames verdicts plan older) (begun_pairs verdicts plan older r.0) r.0 first.0 fits.1.0 first.1)
    by (Complete r) is fits =
        let run : is_in is_running (request verdicts plan older r.0) ≡ true = sym (ap (is_in is_running) (find_request verdicts plan older r.0 fit)) ∙ sym (kept.runs r.0) ∙ ap (λ o. is_number o r.0) fits.1 ∙ eq-eqb r.0 r.0 refl in
        let done : unless_equal r.0 (running older) ≡ None = ap (unless_equal r.0) fits.1 ∙ ap (λ b. cond b None (Some r.0)) (eq-eqb r.0 r.0 refl) in
        seen_same (rs (requests verdicts plan (e ∷ older))) (with_changed (rs (requests verdicts plan older)) r.0 (completed (now verdicts plan older))) (queue (e ∷ older)) (queue older) (running (e ∷ older)) None
        (one _ is fits refl r.0 (completed (now verdicts plan older)) (λ j. refl)) (line _ is ∙ line_stays r.0 (runs_only (was r.0) run)) (turn _ is ∙ done)
        ∙ sym (complete_is (frames verdicts plan older) (now verdicts plan older) r.0 fits.1)
    by (Cancel r) is fits =
        seen_same (rs (requests verdicts plan (e ∷ older))) (with_changed (rs (requests verdicts plan older)) r.0 (completed (now verdicts plan older))) (queue (e ∷ older)) (all_but r.0 (queue older)) (running (e ∷ older)) (running older)
        (one _ is fits refl r.0 (completed (now verdicts plan older)) (λ j. refl)) (line _ is) (turn _ is ∙ turn_stays r.0 (cancel_waits (was r.0) fits.0))
    by StreamOff is fits =
        seen_same (rs (requests verdicts plan (e ∷ older))) (rs (map (ended_request (now verdicts plan older)) (requests verdicts plan older))) (queue (e ∷ older)) [] (running (e ∷ older)) None
        (ap rs (requests_more verdicts plan e older StreamOff is fit fits refl ∙ all_changed was (ended_request (now verdicts plan older)) (ever_made older))) (line _ is) (turn _ is)
    by (Reinit r) is fits = resting _ is fits refl r.0 cleared (rests (was r.0) fits.0) (λ j. refl) refl refl
    by (Free r) is fits =
        let rest = rests (was r.0) fits.0 in
        seen_same (rs (requests verdicts plan (e ∷ older))) (rs (without r.0 (requests verdicts plan older))) (queue (e ∷ older)) (queue older) (running (e ∷ older)) (running older)
        (ap rs (requests_more verdicts plan e older _ is fit fits refl ∙ freed_listed (request verdicts plan older) (ever_made older) r.0 (request_named verdicts plan older)))
        (line _ is ∙ line_stays r.0 rest.0) (turn _ is ∙ turn_stays r.0 rest.1)
    by _ is fits = other _ is fits refl (λ j. refl) refl refl

-- the queue has exactly the requests that wait, and the running one runs, after each history whose steps fit
pub frames_kept : (verdicts : Verdicts) (plan : PlanData) (past : Past) → AllFit verdicts plan past → QueueFitsRequests (frames verdicts plan past)
unfolding AllFit
frames_kept verdicts plan [] fit = subst QueueFitsRequests (sym (frames_start verdicts plan)) (start_kept (length plan.controls))
frames_kept verdicts plan (e ∷ older) fit =
    let kept : QueueFitsRequests (frames verdicts plan older) = frames_kept verdicts plan older fit.0 in
    subst QueueFitsRequests (sym (frames_from verdicts plan e older fit.0 kept fit.1)) (after_kept verdicts plan older e.step fit.0 kept fit.1)

-- the requests, the queue and the running one after one more entry that fits
pub frames_more : (verdicts : Verdicts) (plan : PlanData) (e : Entry Step) (older : Past) → AllFit verdicts plan older → FitsFrames verdicts plan older e.step
    → frames verdicts plan (e ∷ older) ≡ frames_after verdicts plan older (length older) e.step (frames verdicts plan older)
frames_more verdicts plan e older fit fits = frames_from verdicts plan e older fit (frames_kept verdicts plan older fit) fits
