-- The queued frames, and what a forecast is answered.
use Rattle.std.proofs.Common.{◌≡◌, ℕ, suc, zero, ◌<◌, Bool, true, false, cond, List, [], ◌∷◌, length, filter, is_some, slice_get, Option, None, Some, Ok, Err, refl, ap, sym, subst, ◌∙◌, arith}
use Rattle.std.specs.Option.{option_map}
use Rattle.std.proofs.lemmas.List.{length-map}
use Rattle.ctrl_types.specs.declared.errno.Errno.{Errno}
use Rattle.ctrl_calls.specs.Meanings.{Verdicts}
use Rattle.ctrl_handlers.specs.Plan.{PlanData}
use Rattle.req_book.specs.Refusals as book
use Rattle.req_book.specs.declared.state.RequestState.{RequestState}
use Rattle.frame_queue.specs.Frames.{is_queued}
use Rattle.device_history.specs.Steps.{Past}
use Rattle.device_history.specs.Requests.{buffer, is_there, state}
use Rattle.device_history.specs.Frames.{ever_queued, queue}
use Rattle.device_history.specs.Snapshots.{request, request_in}
use Rattle.device_history.specs.Forecasts.{forecast}
use Rattle.device_history.proofs.StretchLemmas.{rows_queued}

-- what is left of numbers passes the test
kept_at : (test : ℕ → Bool) (ids : List ℕ) (i r : ℕ) → slice_get (filter test ids) i ≡ Some r → test r ≡ true
kept_at test [] i r h = cc
kept_at test (k ∷ ids) i r h = by (test k) refl i h (λ j. kept_at test ids j r)
  where
    same : (a b : ℕ) → Some a ≡ Some b → a ≡ b
    same a b h = cc

    by : (b : Bool) → test k ≡ b → (i : ℕ) → slice_get (cond b (k ∷ filter test ids) (filter test ids)) i ≡ Some r → ((j : ℕ) → slice_get (filter test ids) j ≡ Some r → test r ≡ true) → test r ≡ true
    by true is zero h rest = subst (λ (j : ℕ). test j ≡ true) (same k r h) is
    by true is (suc i) h rest = rest i h
    by false is i h rest = rest i h

-- what is queued is there
pub queued_there : (older : Past) (i r : ℕ) → Some r ≡ slice_get (queue older) i → is_some (state older r) ≡ true
queued_there older i r h = by (state older r) (kept_at (λ j. is_there is_queued (state older j)) (ever_queued older) i r (sym h))
  where
    by : (o : Option RequestState) → is_there is_queued o ≡ true → is_some o ≡ true
    by None h = cc
    by (Some s) h = refl

-- the buffer that was read of a request that is there
pub buffer_is : (verdicts : Verdicts) (plan : PlanData) (older : Past) (r : ℕ) (read : Option ℕ) → Ok read ≡ book.buffer_answer (request verdicts plan older r) → read ≡ buffer older r
unfolding request
buffer_is verdicts plan older r read is = by (state older r) is
  where
    by : (o : Option RequestState) → Ok read ≡ book.buffer_answer (option_map (request_in verdicts plan older r) o) → read ≡ buffer older r
    by None h = cc
    by (Some s) h = cc

pub buffer_there : (verdicts : Verdicts) (plan : PlanData) (older : Past) (r : ℕ) (errno : Errno) → is_some (state older r) ≡ true → Err errno ≡ book.buffer_answer (request verdicts plan older r) → ⊥
unfolding request
buffer_there verdicts plan older r errno there is = by (state older r) there is
  where
    by : (o : Option RequestState) → is_some o ≡ true → Err errno ≡ book.buffer_answer (option_map (request_in verdicts plan older r) o) → ⊥
    by None h e = cc
    by (Some s) h e = cc

-- there is a row for each queued frame
pub forecast_each : (verdicts : Verdicts) (plan : PlanData) (older : Past) → length (forecast verdicts plan older) ≡ length (queue older)
forecast_each verdicts plan older = sym (length-map (forecast verdicts plan older) (λ row. row.request.0)) ∙ ap length (rows_queued verdicts plan older)

-- something stands at each place of a list
pub none_within : {A : Type 0} (xs : List A) (i : ℕ) → i < length xs → slice_get xs i ≡ None → ⊥
none_within [] i lt h = omega (arith, lt)
none_within (x ∷ xs) zero lt h = cc
none_within (x ∷ xs) (suc i) lt h = none_within xs i (omega (arith, lt)) h
