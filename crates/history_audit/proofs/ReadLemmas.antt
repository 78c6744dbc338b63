-- What is read of the requests.
use Rattle.std.proofs.Common.{◌≡◌, ℕ, true, List, is_some, unwrap_or, Option, None, Some, IfSome, Ok, refl, ap, sym, ◌∙◌}
use Rattle.std.specs.Option.{option_map}
use Rattle.history.specs.Past.{past}
use Rattle.ctrl_types.specs.declared.ids.Pair.{Pair}
use Rattle.ctrl_types.specs.declared.ids.RequestId.{RequestId}
use Rattle.ctrl_calls.specs.Meanings.{Verdicts}
use Rattle.ctrl_handlers.specs.Plan.{PlanData}
use Rattle.req_book.specs.Refusals as book
use Rattle.req_book.specs.Requests.{RequestData, RequestsData, buffer_in, find}
use Rattle.req_book.specs.declared.state.RequestState.{RequestState}
use Rattle.frame_queue.specs.Frames.{FramesData}
use Rattle.device_history.specs.Legal.{IsLegal}
use Rattle.device_history.specs.Steps.{History, Past}
use Rattle.device_history.specs.Requests.{asked, buffer, state}
use Rattle.device_history.specs.Snapshots.{frames, request, request_in}
use Rattle.device_parts.proofs.FitLemmas.{found}

-- the request under an id in the requests that a queue lends
pub lent : (verdicts : Verdicts) (plan : PlanData) (entries : History) (kept : FramesData) (r : ℕ) → kept ≡ frames verdicts plan (past entries) → IsLegal verdicts plan (past entries) → (rs : RequestsData) → rs ≡ kept.requests
    → find rs.all r ≡ request verdicts plan (past entries) r
lent verdicts plan entries kept r own legal rs is = ap (λ (q : RequestsData). find q.all r) is ∙ found verdicts plan entries kept r own legal

-- what a request asks for that is there
pub asked_is : (verdicts : Verdicts) (plan : PlanData) (older : Past) (r : ℕ) (pairs : List Pair) → book.asked_answer (request verdicts plan older r) ≡ Ok pairs → pairs ≡ asked plan older r
unfolding request
asked_is verdicts plan older r pairs is = by (state older r) is
  where
    by : (o : Option RequestState) → book.asked_answer (option_map (request_in verdicts plan older r) o) ≡ Ok pairs → pairs ≡ asked plan older r
    by None h = cc
    by (Some s) h = cc

-- a request that doesn't refuse pairs is there
pub store_there : (verdicts : Verdicts) (plan : PlanData) (older : Past) (r : ℕ) → book.store_check (request verdicts plan older r) ≡ None → is_some (state older r) ≡ true
unfolding request
store_there verdicts plan older r idle = by (state older r) idle
  where
    by : (o : Option RequestState) → book.store_check (option_map (request_in verdicts plan older r) o) ≡ None → is_some o ≡ true
    by None h = cc
    by (Some s) h = refl

-- a request that is there is kept
pub held : (verdicts : Verdicts) (plan : PlanData) (older : Past) (r : ℕ) → is_some (state older r) ≡ true → is_some (request verdicts plan older r) ≡ true
unfolding request
held verdicts plan older r there = by (state older r) there
  where
    by : (o : Option RequestState) → is_some o ≡ true → is_some (option_map (request_in verdicts plan older r) o) ≡ true
    by None h = cc
    by (Some s) h = refl

-- a request that holds a buffer is there
pub buffer_there : (verdicts : Verdicts) (plan : PlanData) (older : Past) (r : ℕ) → is_some (buffer_in (request verdicts plan older r)) ≡ true → is_some (state older r) ≡ true
unfolding request
buffer_there verdicts plan older r holds = by (state older r) holds
  where
    by : (o : Option RequestState) → is_some (buffer_in (option_map (request_in verdicts plan older r) o)) ≡ true → is_some o ≡ true
    by None h = cc
    by (Some s) h = refl

-- and its number is that of the history
pub buffer_is : (verdicts : Verdicts) (plan : PlanData) (older : Past) (r n : ℕ) → buffer_in (request verdicts plan older r) ≡ Some n → n ≡ unwrap_or (buffer older r) 0
unfolding request
buffer_is verdicts plan older r n is = by (state older r) is
  where
    by : (o : Option RequestState) → buffer_in (option_map (request_in verdicts plan older r) o) ≡ Some n → n ≡ unwrap_or (buffer older r) 0
    by None h = cc
    by (Some s) h = sym (ap (λ (b : Option ℕ). unwrap_or b 0) h)

-- what is queued holds a buffer, as it is kept
pub queued_holds : (verdicts : Verdicts) (plan : PlanData) (older : Past) (kept : ℕ → Option RequestData) (o : Option RequestId) → ((r : ℕ) → kept r ≡ request verdicts plan older r)
    → IfSome o (λ id. is_some (buffer_in (kept id.0)) ≡ true) → IfSome o (λ id. is_some (buffer_in (request verdicts plan older id.0)) ≡ true)
queued_holds verdicts plan older kept None own h = tt
queued_holds verdicts plan older kept (Some id) own h = rw own at h
