-- The requests, the queue and the running frame after one more entry, and what the store of a legal history has under an id.
use Rattle.std.proofs.Common.{◌≡◌, ℕ, ◌<◌, false, nat_eq, [], ◌∷◌, ◌++◌, length, Option, None, Some, refl, subst, ap, ◌∙◌, arith, length-append}
use Rattle.std.specs.List.{list_any}
use Rattle.std.proofs.lemmas.Bool.Decides.{nat_tests}
use Rattle.std.proofs.lemmas.List.{reverse-append}
use Rattle.req_book.specs.declared.state.RequestState.{RequestState}
use Rattle.device_history.specs.declared.ask.Step.TheVariants as steps
use Rattle.device_history.specs.Requests.{made, state}
use Rattle.std.specs.Option.{option_map}
use Rattle.history.specs.declared.entry.Entry.{Entry}
use Rattle.history.specs.Past.{past}
use Rattle.history.proofs.Pasts.{past_add, length_past}
use Rattle.ctrl_calls.specs.Meanings.{Verdicts}
use Rattle.ctrl_handlers.specs.Plan.{PlanData}
use Rattle.req_book.specs.Requests.{find}
use Rattle.frame_queue.specs.Frames.{FramesData, QueueFitsRequests}
use Rattle.device_history.specs.declared.ask.Step.{Step}
use Rattle.device_history.specs.Steps.{History, Past}
use Rattle.device_history.specs.Legal.{IsLegal, MayFollow}
use Rattle.device_history.specs.Frames.{queue, queue_after, running, running_after}
use Rattle.device_history.specs.Snapshots.{frames, request, request_in, requests}
use Rattle.device_history.specs.FrameSteps.{frames_after, request_after}
use Rattle.device_history.proofs.FitLemmas.{all_fit, fits}
use Rattle.device_history.proofs.QueueLemmas.{queue_more, running_more}
use Rattle.device_history.proofs.RequestLemmas.{request_more}
use Rattle.device_history.proofs.StateLemmas.{state_start}
use Rattle.device_history.proofs.FrameLemmas as store

-- before the first entry
pub frames_start : (verdicts : Verdicts) (plan : PlanData) → ◌≡◌ {A = FramesData} (frames verdicts plan (past [])) (record { requests = record { controls = length plan.controls; all = [] }; queue = []; running = None })
frames_start verdicts plan = store.frames_start verdicts plan

-- after one more of a legal history
pub frames_add : (verdicts : Verdicts) (plan : PlanData) (entries : History) (e : Entry Step) → IsLegal verdicts plan (past entries) → MayFollow verdicts plan (past entries) e.step
    → frames verdicts plan (past (entries ++ e ∷ [])) ≡ frames_after verdicts plan (past entries) (length entries) e.step (frames verdicts plan (past entries))
frames_add verdicts plan entries e legal may =
    rw (past_add entries e)
    (subst (λ (n : ℕ). frames verdicts plan (e ∷ past entries) ≡ frames_after verdicts plan (past entries) n e.step (frames verdicts plan (past entries))) (length_past entries)
    (store.frames_more verdicts plan e (past entries) (all_fit verdicts plan (past entries) legal) (fits verdicts plan (past entries) e.step may)))

-- the queue and the running frame of a legal history are those of a store
pub frames_legal : (verdicts : Verdicts) (plan : PlanData) (past : Past) → IsLegal verdicts plan past → QueueFitsRequests (frames verdicts plan past)
frames_legal verdicts plan past legal = store.frames_kept verdicts plan past (all_fit verdicts plan past legal)

-- the request with an id is the one that the store has
pub found_request : (verdicts : Verdicts) (plan : PlanData) (past : Past) (r : ℕ) → IsLegal verdicts plan past → find (requests verdicts plan past) r ≡ request verdicts plan past r
found_request verdicts plan past r legal = store.find_request verdicts plan past r (all_fit verdicts plan past legal)

-- the number of the next step is no request's
pub fresh_request : (verdicts : Verdicts) (plan : PlanData) (entries : History) → IsLegal verdicts plan (past entries) → request verdicts plan (past entries) (length entries) ≡ None
fresh_request verdicts plan entries legal =
    subst (λ (n : ℕ). request verdicts plan (past entries) n ≡ None) (length_past entries) (store.next_none verdicts plan (past entries) (all_fit verdicts plan (past entries) legal))

-- the queue after one more entry
pub queue_add : (entries : History) (e : Entry Step) → queue (past (entries ++ e ∷ [])) ≡ queue_after (length entries) e.step (queue (past entries))
queue_add entries e = rw (past_add entries e)
    (subst (λ (n : ℕ). queue (e ∷ past entries) ≡ queue_after n e.step (queue (past entries))) (length_past entries) (queue_more e (past entries)))

-- and the running frame
pub running_add : (entries : History) (e : Entry Step) → running (past (entries ++ e ∷ [])) ≡ running_after (length entries) e.step (running (past entries))
running_add entries e = rw (past_add entries e)
    (subst (λ (n : ℕ). running (e ∷ past entries) ≡ running_after n e.step (running (past entries))) (length_past entries) (running_more e (past entries)))

-- one request of a legal history after one more entry
pub request_add : (verdicts : Verdicts) (plan : PlanData) (entries : History) (e : Entry Step) (r : ℕ) → IsLegal verdicts plan (past entries) → MayFollow verdicts plan (past entries) e.step
    → request verdicts plan (past (entries ++ e ∷ [])) r ≡ request_after verdicts plan (past entries) (length entries) e.step r (request verdicts plan (past entries) r)
request_add verdicts plan entries e r legal may =
    rw (past_add entries e)
    (subst (λ (n : ℕ). request verdicts plan (e ∷ past entries) r ≡ request_after verdicts plan (past entries) n e.step r (request verdicts plan (past entries) r)) (length_past entries)
    (request_more verdicts plan e (past entries) (all_fit verdicts plan (past entries) legal) (fits verdicts plan (past entries) e.step may) r))

-- before the first entry there is none
pub request_start : (verdicts : Verdicts) (plan : PlanData) (r : ℕ) → request verdicts plan (past []) r ≡ None
unfolding request
request_start verdicts plan r = ap (option_map (request_in verdicts plan (past []) r)) (state_start r)

-- a step makes no request with an earlier number
not_earlier : (r n : ℕ) (step : Step) → r < n → list_any (nat_eq r) (made n step) ≡ false
not_earlier r n steps.Alloc lt = let other : nat_eq r n ≡ false = grind (arith, nat_tests, lt) in rw other refl
not_earlier r n _ lt = refl

older_freed : (verdicts : Verdicts) (plan : PlanData) (newer older : Past) (r : ℕ) → IsLegal verdicts plan (newer ++ older) → r < length older → request verdicts plan older r ≡ None → request verdicts plan (newer ++ older) r ≡ None
unfolding IsLegal
older_freed verdicts plan [] older r legal lt gone = gone
older_freed verdicts plan (e ∷ newer) older r legal lt gone =
    request_more verdicts plan e (newer ++ older) (all_fit verdicts plan (newer ++ older) legal.0) (fits verdicts plan (newer ++ older) e.step legal.1) r
    ∙ ap (request_after verdicts plan (newer ++ older) (length (newer ++ older)) e.step r) (older_freed verdicts plan newer older r legal.0 lt gone)
    ∙ store.after_none verdicts plan (newer ++ older) (length (newer ++ older)) e.step r (not_earlier r (length (newer ++ older)) e.step (omega (arith, lt, length-append newer older)))

no_state : (verdicts : Verdicts) (plan : PlanData) (past : Past) (r : ℕ) → request verdicts plan past r ≡ None → state past r ≡ None
unfolding request
no_state verdicts plan past r h = by (state past r) h
  where
    by : (o : Option RequestState) → option_map (request_in verdicts plan past r) o ≡ None → o ≡ None
    by None h = refl
    by (Some s) h = cc

no_request : (verdicts : Verdicts) (plan : PlanData) (past : Past) (r : ℕ) → state past r ≡ None → request verdicts plan past r ≡ None
unfolding request
no_request verdicts plan past r h = ap (option_map (request_in verdicts plan past r)) h

-- a request that was let go is never there again
pub freed_for_good : (verdicts : Verdicts) (plan : PlanData) (entries more : History) (r : ℕ) → IsLegal verdicts plan (past (entries ++ more)) → r < length entries → state (past entries) r ≡ None → state (past (entries ++ more)) r ≡ None
freed_for_good verdicts plan entries more r legal lt gone =
    rw (reverse-append entries more)
    (no_state verdicts plan (past more ++ past entries) r
    (older_freed verdicts plan (past more) (past entries) r (subst (IsLegal verdicts plan) (reverse-append entries more) legal) (omega (arith, lt, length_past entries)) (no_request verdicts plan (past entries) r gone)))
