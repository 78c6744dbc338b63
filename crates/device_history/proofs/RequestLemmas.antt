-- What each step makes of a request.
use Rattle.std.proofs.Common.{◌≡◌, ℕ, ◌+◌, zero, suc, ◌∙◌, Bool, true, false, ◌||◌, cond, inl, inr, List, [], ◌∷◌, length, map, filter, replicate, Option, None, Some, is_some, nat_eq, refl, sym, ap, subst}
use Rattle.std.specs.List.{range_with_len}
use Rattle.std.specs.Option.{option_map}
use Rattle.std.proofs.lemmas.Bool.Decides.{eqb_tells}
use Rattle.history.specs.declared.entry.Entry.{Entry}
use Rattle.ctrl_types.specs.declared.value.CtrlValue.{CtrlValue}
use Rattle.ctrl_types.specs.Pairs.{last_value}
use Rattle.ctrl_types.specs.declared.ids.Pair.{Pair}
use Rattle.ctrl_types.specs.declared.ids.RequestId.{RequestId}
use Rattle.req_book.specs.declared.state.RequestState.{RequestState}
use Rattle.req_book.specs.declared.state.RequestState.TheVariants.{Idle, Queued, Running, Complete}
use Rattle.req_book.specs.Requests.{RequestData, new_request, cleared, is_idle, is_complete, is_number, snapshot_of}
use Rattle.req_book.specs.Refusals.{store_check, buffer_check, queue_check, clear_check}
use Rattle.req_book.proofs.ObjectLemmas.{Tells}
use Rattle.frame_queue.specs.Frames.{is_queued, is_running, cancel_check}
use Rattle.ctrl_calls.specs.Meanings.{Verdicts}
use Rattle.ctrl_handlers.specs.Plan.{PlanData}
use Rattle.device_history.specs.declared.ask.Step.{Step}
use Rattle.device_history.specs.declared.ask.Step.TheVariants as steps
use Rattle.device_history.specs.Steps.{Past}
use Rattle.device_history.specs.Requests.{ended_state, state, is_there, state_after, makes_new, asked, asked_after, buffer, buffer_after}
use Rattle.device_history.specs.Frames.{begun_by, ever_queued, queue, last_begun, if_running, running, first_of}
use Rattle.device_history.specs.Values.{now}
use Rattle.device_history.specs.Snapshots.{before_begin, applied_by_begin, completes, before_completion, request_in, request, requests}
use Rattle.device_history.specs.FrameSteps.{FitsFrames, request_after}
use Rattle.device_history.proofs.StateLemmas.{state_more, asked_more, buffer_more, asked_same}
use Rattle.device_history.proofs.AllFit.{AllFit}

-- a request in a state
pub request_some : (verdicts : Verdicts) (plan : PlanData) (older : Past) (j : ℕ) (s : RequestState) → state older j ≡ Some s → request verdicts plan older j ≡ Some (request_in verdicts plan older j s)
unfolding request
request_some verdicts plan older j s is = rw is refl

-- the history before the begin of a request's frame, after one more step
abbrev pub begin_after : Past → Step → ℕ → Option Past
begin_after older step j = cond (makes_new j (length older) step) None (cond (is_number (begun_by step) j) (Some older) (before_begin j older))

-- for each control the value that it got at the begin
abbrev pub applied_after : Verdicts → PlanData → Past → Step → ℕ → List (Option CtrlValue)
applied_after verdicts plan older step j = map (last_value (applied_by_begin verdicts plan j (begin_after older step j))) (range_with_len 0 (length plan.controls))

-- the request in a state, after one more step
abbrev pub after_in : Verdicts → PlanData → Past → Step → ℕ → RequestState → RequestData
after_in verdicts plan older step j s = record {
  id = j;
  state = s;
  buffer = buffer_after (length older) step j (buffer older j);
  pairs = asked_after plan (length older) step j (asked plan older j);
  applied = cond (is_idle s) [] (applied_after verdicts plan older step j);
  snapshot = cond (is_complete s) (snapshot_of (applied_after verdicts plan older step j) (now verdicts plan (cond (completes older j step) older (before_completion j older)))) [];
}

-- the request after one more step, each field by itself
abbrev pub fields_after : Verdicts → PlanData → Past → Step → ℕ → Option RequestData
fields_after verdicts plan older step j = option_map (after_in verdicts plan older step j) (state_after (length older) step j (state older j))

-- a request after one more entry
fields_more : (verdicts : Verdicts) (plan : PlanData) (e : Entry Step) (older : Past) (j : ℕ) → request verdicts plan (e ∷ older) j ≡ fields_after verdicts plan older e.step j
unfolding request before_begin before_completion
fields_more verdicts plan e older j = ap (option_map (request_in verdicts plan (e ∷ older) j)) (state_more e older j) ∙ by (state_after (length older) e.step j (state older j))
  where
    by : (o : Option RequestState) → option_map (request_in verdicts plan (e ∷ older) j) o ≡ option_map (after_in verdicts plan older e.step j) o
    by None = refl
    by (Some s) = rw (asked_more plan e older j, buffer_more e older j) refl

-- where no field is changed in any state, the request isn't
same_fields : (verdicts : Verdicts) (plan : PlanData) (older : Past) (step : Step) (j : ℕ) → ((s : RequestState) → after_in verdicts plan older step j s ≡ request_in verdicts plan older j s)
    → option_map (after_in verdicts plan older step j) (state older j) ≡ request verdicts plan older j
unfolding request
same_fields verdicts plan older step j same = by (state older j)
  where
    by : (o : Option RequestState) → option_map (after_in verdicts plan older step j) o ≡ option_map (request_in verdicts plan older j) o
    by None = refl
    by (Some s) = ap Some (same s)

-- pairs are stored in an idle one
pub stored_request : (verdicts : Verdicts) (plan : PlanData) (older : Past) (r : RequestId) (pairs : List Pair) (j : ℕ) → state older r.0 ≡ Some Idle
    → fields_after verdicts plan older (steps.Store r pairs) j ≡ request_after verdicts plan older (length older) (steps.Store r pairs) j (request verdicts plan older j)
unfolding request
stored_request verdicts plan older r pairs j is = by (eqb_tells r.0 j)
  where
    by : Tells r.0 j → fields_after verdicts plan older (steps.Store r pairs) j ≡ request_after verdicts plan older (length older) (steps.Store r pairs) j (request verdicts plan older j)
    by (inr other) = rw other.0 (same_fields verdicts plan older (steps.Store r pairs) j (λ s. rw (other.0, asked_same plan older j) refl))
    by (inl same) =
        let own : state older j ≡ Some Idle = sym (ap (state older) same.1) ∙ is in
        rw (same.0, own, same.0) refl

-- an idle one gets a buffer
pub buffered_request : (verdicts : Verdicts) (plan : PlanData) (older : Past) (r : RequestId) (number : ℕ) (j : ℕ) → state older r.0 ≡ Some Idle
    → fields_after verdicts plan older (steps.Buffer r number) j ≡ request_after verdicts plan older (length older) (steps.Buffer r number) j (request verdicts plan older j)
unfolding request
buffered_request verdicts plan older r number j is = by (eqb_tells r.0 j)
  where
    by : Tells r.0 j → fields_after verdicts plan older (steps.Buffer r number) j ≡ request_after verdicts plan older (length older) (steps.Buffer r number) j (request verdicts plan older j)
    by (inr other) = rw other.0 (same_fields verdicts plan older (steps.Buffer r number) j (λ s. rw (other.0, asked_same plan older j) refl))
    by (inl same) =
        let own : state older j ≡ Some Idle = sym (ap (state older) same.1) ∙ is in
        rw (same.0, own, same.0, asked_same plan older j) refl

-- of no pairs each control has no value
none_given : (n : ℕ) → map (last_value []) (range_with_len 0 n) ≡ replicate n None
none_given n = by 0 n
  where
    by : (a n : ℕ) → map (last_value []) (range_with_len a n) ≡ replicate n None
    by a zero = refl
    by a (suc n) = ap (λ (l : List (Option CtrlValue)). None ∷ l) (by (a + 1) n)

-- an idle one whose frame was not begun is queued
pub queued_request : (verdicts : Verdicts) (plan : PlanData) (older : Past) (r : RequestId) (j : ℕ) → state older r.0 ≡ Some Idle → before_begin r.0 older ≡ None
    → fields_after verdicts plan older (steps.Queue r) j ≡ request_after verdicts plan older (length older) (steps.Queue r) j (request verdicts plan older j)
unfolding request
queued_request verdicts plan older r j is unbegun = by (eqb_tells r.0 j)
  where
    by : Tells r.0 j → fields_after verdicts plan older (steps.Queue r) j ≡ request_after verdicts plan older (length older) (steps.Queue r) j (request verdicts plan older j)
    by (inr other) = rw other.0 (same_fields verdicts plan older (steps.Queue r) j (λ s. rw (asked_same plan older j) refl))
    by (inl same) =
        let own : state older j ≡ Some Idle = sym (ap (state older) same.1) ∙ is in
        let none : before_begin j older ≡ None = sym (ap (λ (i : ℕ). before_begin i older) same.1) ∙ unbegun in
        rw (same.0, own, asked_same plan older j, none, none_given (length plan.controls)) refl

-- the frame of a queued one is begun
pub begun_request : (verdicts : Verdicts) (plan : PlanData) (older : Past) (r : RequestId) (j : ℕ) → state older r.0 ≡ Some Queued
    → fields_after verdicts plan older (steps.Begin r) j ≡ request_after verdicts plan older (length older) (steps.Begin r) j (request verdicts plan older j)
unfolding request
begun_request verdicts plan older r j is = by (eqb_tells r.0 j)
  where
    by : Tells r.0 j → fields_after verdicts plan older (steps.Begin r) j ≡ request_after verdicts plan older (length older) (steps.Begin r) j (request verdicts plan older j)
    by (inr other) = rw other.0 (same_fields verdicts plan older (steps.Begin r) j (λ s. rw (other.0, asked_same plan older j) refl))
    by (inl same) =
        let own : state older j ≡ Some Queued = sym (ap (state older) same.1) ∙ is in
        rw (same.0, own, same.0, asked_same plan older j, same.1) refl

-- the frame of a running one is ended
pub completed_request : (verdicts : Verdicts) (plan : PlanData) (older : Past) (r : RequestId) (j : ℕ) → state older r.0 ≡ Some Running
    → fields_after verdicts plan older (steps.Complete r) j ≡ request_after verdicts plan older (length older) (steps.Complete r) j (request verdicts plan older j)
unfolding request
completed_request verdicts plan older r j is = by (eqb_tells r.0 j)
  where
    by : Tells r.0 j → fields_after verdicts plan older (steps.Complete r) j ≡ request_after verdicts plan older (length older) (steps.Complete r) j (request verdicts plan older j)
    by (inr other) = rw other.0 (same_fields verdicts plan older (steps.Complete r) j (λ s. rw (other.0, asked_same plan older j) refl))
    by (inl same) =
        let own : state older j ≡ Some Running = sym (ap (state older) same.1) ∙ is in
        rw (same.0, own, same.0, asked_same plan older j) refl

-- a queued one is taken from the queue
pub cancelled_request : (verdicts : Verdicts) (plan : PlanData) (older : Past) (r : RequestId) (j : ℕ) → state older r.0 ≡ Some Queued
    → fields_after verdicts plan older (steps.Cancel r) j ≡ request_after verdicts plan older (length older) (steps.Cancel r) j (request verdicts plan older j)
unfolding request
cancelled_request verdicts plan older r j is = by (eqb_tells r.0 j)
  where
    by : Tells r.0 j → fields_after verdicts plan older (steps.Cancel r) j ≡ request_after verdicts plan older (length older) (steps.Cancel r) j (request verdicts plan older j)
    by (inr other) = rw other.0 (same_fields verdicts plan older (steps.Cancel r) j (λ s. rw (other.0, asked_same plan older j) refl))
    by (inl same) =
        let own : state older j ≡ Some Queued = sym (ap (state older) same.1) ∙ is in
        rw (same.0, own, same.0, asked_same plan older j) refl

-- one is made as new
pub renewed_request : (verdicts : Verdicts) (plan : PlanData) (older : Past) (r : RequestId) (j : ℕ) → is_some (state older r.0) ≡ true
    → fields_after verdicts plan older (steps.Reinit r) j ≡ request_after verdicts plan older (length older) (steps.Reinit r) j (request verdicts plan older j)
unfolding request
renewed_request verdicts plan older r j is = by (eqb_tells r.0 j)
  where
    there : nat_eq r.0 j ≡ true → (o : Option RequestState) → is_some o ≡ true → Some (after_in verdicts plan older (steps.Reinit r) j Idle) ≡ option_map cleared (option_map (request_in verdicts plan older j) o)
    there same None h = cc
    there same (Some s) h = rw same refl

    by : Tells r.0 j → fields_after verdicts plan older (steps.Reinit r) j ≡ request_after verdicts plan older (length older) (steps.Reinit r) j (request verdicts plan older j)
    by (inr other) = rw other.0 (same_fields verdicts plan older (steps.Reinit r) j (λ s. rw (other.0, asked_same plan older j) refl))
    by (inl same) = rw same.0 (there same.0 (state older j) (ap (λ (i : ℕ). is_some (state older i)) (sym same.1) ∙ is))

-- one is let go
pub freed_request : (verdicts : Verdicts) (plan : PlanData) (older : Past) (r : RequestId) (j : ℕ)
    → fields_after verdicts plan older (steps.Free r) j ≡ request_after verdicts plan older (length older) (steps.Free r) j (request verdicts plan older j)
unfolding request
freed_request verdicts plan older r j = by (eqb_tells r.0 j)
  where
    by : Tells r.0 j → fields_after verdicts plan older (steps.Free r) j ≡ request_after verdicts plan older (length older) (steps.Free r) j (request verdicts plan older j)
    by (inr other) = rw other.0 (same_fields verdicts plan older (steps.Free r) j (λ s. rw (asked_same plan older j) refl))
    by (inl same) = rw same.0 refl

-- one is made
pub made_request : (verdicts : Verdicts) (plan : PlanData) (older : Past) (j : ℕ)
    → fields_after verdicts plan older steps.Alloc j ≡ request_after verdicts plan older (length older) steps.Alloc j (request verdicts plan older j)
made_request verdicts plan older j = by (eqb_tells (length older) j)
  where
    by : Tells (length older) j → fields_after verdicts plan older steps.Alloc j ≡ request_after verdicts plan older (length older) steps.Alloc j (request verdicts plan older j)
    by (inr other) = rw other.0 (same_fields verdicts plan older steps.Alloc j (λ s. rw (other.0, asked_same plan older j) refl))
    by (inl same) = rw (same.0, same.0) (ap (λ (i : ℕ). Some (new_request i)) (sym same.1))

-- the stream is stopped
pub off_request : (verdicts : Verdicts) (plan : PlanData) (older : Past) (j : ℕ)
    → fields_after verdicts plan older steps.StreamOff j ≡ request_after verdicts plan older (length older) steps.StreamOff j (request verdicts plan older j)
unfolding request
off_request verdicts plan older j = by (state older j) refl
  where
    by : (o : Option RequestState) → state older j ≡ o → fields_after verdicts plan older steps.StreamOff j ≡ request_after verdicts plan older (length older) steps.StreamOff j (request verdicts plan older j)
    by None is = rw is refl
    by (Some Idle) is = rw (is, asked_same plan older j) refl
    by (Some Queued) is = rw (is, is, asked_same plan older j) refl
    by (Some Running) is = rw (is, is, asked_same plan older j) refl
    by (Some Complete) is = rw (is, is, asked_same plan older j) refl

-- what takes pairs is idle
stored_idle : (verdicts : Verdicts) (plan : PlanData) (older : Past) (r : ℕ) → store_check (request verdicts plan older r) ≡ None → state older r ≡ Some Idle
unfolding request
stored_idle verdicts plan older r = by (state older r)
  where
    by : (o : Option RequestState) → store_check (option_map (request_in verdicts plan older r) o) ≡ None → o ≡ Some Idle
    by None h = cc
    by (Some Idle) h = refl
    by (Some Queued) h = cc
    by (Some Running) h = cc
    by (Some Complete) h = cc

-- what takes a buffer is idle
buffered_idle : (verdicts : Verdicts) (plan : PlanData) (older : Past) (rs : List RequestData) (number r : ℕ) → buffer_check rs number (request verdicts plan older r) ≡ None → state older r ≡ Some Idle
unfolding request
buffered_idle verdicts plan older rs number r = by (state older r)
  where
    by : (o : Option RequestState) → buffer_check rs number (option_map (request_in verdicts plan older r) o) ≡ None → o ≡ Some Idle
    by None h = cc
    by (Some Idle) h = refl
    by (Some Queued) h = cc
    by (Some Running) h = cc
    by (Some Complete) h = cc

-- what is queued was idle
queued_idle : (verdicts : Verdicts) (plan : PlanData) (older : Past) (r : ℕ) → queue_check (request verdicts plan older r) ≡ None → state older r ≡ Some Idle
unfolding request
queued_idle verdicts plan older r = by (state older r)
  where
    by : (o : Option RequestState) → queue_check (option_map (request_in verdicts plan older r) o) ≡ None → o ≡ Some Idle
    by None h = cc
    by (Some Idle) h = refl
    by (Some Queued) h = cc
    by (Some Running) h = cc
    by (Some Complete) h = cc

-- what is taken from the queue is queued
cancelled_queued : (verdicts : Verdicts) (plan : PlanData) (older : Past) (r : ℕ) → cancel_check (request verdicts plan older r) ≡ None → state older r ≡ Some Queued
unfolding request
cancelled_queued verdicts plan older r = by (state older r)
  where
    by : (o : Option RequestState) → cancel_check (option_map (request_in verdicts plan older r) o) ≡ None → o ≡ Some Queued
    by None h = cc
    by (Some Idle) h = cc
    by (Some Queued) h = refl
    by (Some Running) h = cc
    by (Some Complete) h = cc

-- what is made as new is there
renewed_there : (verdicts : Verdicts) (plan : PlanData) (older : Past) (r : ℕ) → clear_check (request verdicts plan older r) ≡ None → is_some (state older r) ≡ true
unfolding request
renewed_there verdicts plan older r = by (state older r)
  where
    by : (o : Option RequestState) → clear_check (option_map (request_in verdicts plan older r) o) ≡ None → is_some o ≡ true
    by None h = cc
    by (Some s) h = refl

-- the first of the numbers that are kept passes the test
first_kept : (test : ℕ → Bool) (ids : List ℕ) (r : ℕ) → first_of (filter test ids) ≡ Some r → test r ≡ true
first_kept test [] r h = cc
first_kept test (k ∷ ids) r h = by (test k) refl h (first_kept test ids r)
  where
    by : (b : Bool) → test k ≡ b → first_of (cond b (k ∷ filter test ids) (filter test ids)) ≡ Some r → (first_of (filter test ids) ≡ Some r → test r ≡ true) → test r ≡ true
    by true is h rest = subst (λ (i : ℕ). test i ≡ true) (same k r h) is
      where
        same : (a b : ℕ) → Some a ≡ Some b → a ≡ b
        same a b h = cc
    by false is h rest = rest h

-- the first of the queue is queued
pub first_queued : (older : Past) (r : ℕ) → first_of (queue older) ≡ Some r → state older r ≡ Some Queued
first_queued older r h = by (state older r) (first_kept (λ i. is_there is_queued (state older i)) (ever_queued older) r h)
  where
    by : (o : Option RequestState) → is_there is_queued o ≡ true → o ≡ Some Queued
    by None h = cc
    by (Some Idle) h = cc
    by (Some Queued) h = refl
    by (Some Running) h = cc
    by (Some Complete) h = cc

-- the one whose frame is being made runs
running_runs : (older : Past) (r : ℕ) → running older ≡ Some r → state older r ≡ Some Running
running_runs older r h = last (last_begun older) h
  where
    by : (o : Option RequestState) → is_there is_running o ≡ true → o ≡ Some Running
    by None h = cc
    by (Some Idle) h = cc
    by (Some Queued) h = cc
    by (Some Running) h = refl
    by (Some Complete) h = cc

    same : (k : ℕ) (b : Bool) → is_there is_running (state older k) ≡ b → cond b (Some k) None ≡ Some r → state older r ≡ Some Running
    same k true is h = subst (λ (i : ℕ). state older i ≡ Some Running) (equal k r h) (by (state older k) is)
      where
        equal : (a b : ℕ) → Some a ≡ Some b → a ≡ b
        equal a b h = cc
    same k false is h = cc

    last : (o : Option ℕ) → if_running older o ≡ Some r → state older r ≡ Some Running
    last None h = cc
    last (Some k) h = same k (is_there is_running (state older k)) refl h

-- a request whose frame was not begun: it is idle or queued
abbrev pub is_early : Option RequestState → Bool
is_early o = is_there (λ s. is_idle s || is_queued s) o

clash : {X : Type 0} → false ≡ true → X
clash h = cc

-- a step that fits begins no frame of a request that is idle or queued behind it
early_after : (verdicts : Verdicts) (plan : PlanData) (older : Past) (step : Step) (j : ℕ) → FitsFrames verdicts plan older step → (is_early (state older j) ≡ true → before_begin j older ≡ None)
    → is_early (state_after (length older) step j (state older j)) ≡ true → begin_after older step j ≡ None
early_after verdicts plan older steps.Alloc j fits rest early = by (eqb_tells (length older) j)
  where
    by : Tells (length older) j → begin_after older steps.Alloc j ≡ None
    by (inl same) = rw same.0 refl
    by (inr other) = rw other.0 (rest (rw other.0 at early))
early_after verdicts plan older (steps.Store r pairs) j fits rest early = by (eqb_tells r.0 j)
  where
    by : Tells r.0 j → before_begin j older ≡ None
    by (inl same) = rest (ap (λ (i : ℕ). is_early (state older i)) (sym same.1) ∙ ap is_early (stored_idle verdicts plan older r.0 fits.0))
    by (inr other) = rest (rw other.0 at early)
early_after verdicts plan older (steps.Buffer r number) j fits rest early = by (eqb_tells r.0 j)
  where
    by : Tells r.0 j → before_begin j older ≡ None
    by (inl same) = rest (ap (λ (i : ℕ). is_early (state older i)) (sym same.1) ∙ ap is_early (buffered_idle verdicts plan older (requests verdicts plan older) number r.0 fits.0))
    by (inr other) = rest (rw other.0 at early)
early_after verdicts plan older (steps.Queue r) j fits rest early = by (eqb_tells r.0 j)
  where
    by : Tells r.0 j → before_begin j older ≡ None
    by (inl same) = rest (ap (λ (i : ℕ). is_early (state older i)) (sym same.1) ∙ ap is_early (queued_idle verdicts plan older r.0 fits.0))
    by (inr other) = rest (rw other.0 at early)
early_after verdicts plan older (steps.Begin r) j fits rest early = by (eqb_tells r.0 j)
  where
    by : Tells r.0 j → begin_after older (steps.Begin r) j ≡ None
    by (inl same) = clash (rw same.0 at early)
    by (inr other) = rw other.0 (rest (rw other.0 at early))
early_after verdicts plan older (steps.Complete r) j fits rest early = by (eqb_tells r.0 j)
  where
    by : Tells r.0 j → before_begin j older ≡ None
    by (inl same) = clash (rw same.0 at early)
    by (inr other) = rest (rw other.0 at early)
early_after verdicts plan older (steps.Cancel r) j fits rest early = by (eqb_tells r.0 j)
  where
    by : Tells r.0 j → before_begin j older ≡ None
    by (inl same) = clash (rw same.0 at early)
    by (inr other) = rest (rw other.0 at early)
early_after verdicts plan older steps.StreamOff j fits rest early = rest (by (state older j) early)
  where
    by : (o : Option RequestState) → is_early (option_map ended_state o) ≡ true → is_early o ≡ true
    by None h = h
    by (Some Idle) h = refl
    by (Some Queued) h = refl
    by (Some Running) h = h
    by (Some Complete) h = h
early_after verdicts plan older (steps.Reinit r) j fits rest early = by (eqb_tells r.0 j)
  where
    by : Tells r.0 j → begin_after older (steps.Reinit r) j ≡ None
    by (inl same) = rw same.0 refl
    by (inr other) = rw other.0 (rest (rw other.0 at early))
early_after verdicts plan older (steps.Free r) j fits rest early = by (eqb_tells r.0 j)
  where
    by : Tells r.0 j → before_begin j older ≡ None
    by (inl same) = clash (rw same.0 at early)
    by (inr other) = rest (rw other.0 at early)
early_after verdicts plan older _ j fits rest early = rest early

-- the frame of an idle or queued request was not begun since it was made, or made as new
pub early_unbegun : (verdicts : Verdicts) (plan : PlanData) (older : Past) → AllFit verdicts plan older → (j : ℕ) → is_early (state older j) ≡ true → before_begin j older ≡ None
unfolding before_begin AllFit
early_unbegun verdicts plan [] fit j early = refl
early_unbegun verdicts plan (e ∷ older) fit j early =
    early_after verdicts plan older e.step j fit.1 (early_unbegun verdicts plan older fit.0 j) (sym (ap is_early (state_more e older j)) ∙ early)

-- what a step that fits makes of a request
after_step : (verdicts : Verdicts) (plan : PlanData) (older : Past) (step : Step) → AllFit verdicts plan older → FitsFrames verdicts plan older step
    → (j : ℕ) → fields_after verdicts plan older step j ≡ request_after verdicts plan older (length older) step j (request verdicts plan older j)
after_step verdicts plan older steps.Alloc fit fits j = made_request verdicts plan older j
after_step verdicts plan older (steps.Store r pairs) fit fits j = stored_request verdicts plan older r pairs j (stored_idle verdicts plan older r.0 fits.0)
after_step verdicts plan older (steps.Buffer r number) fit fits j = buffered_request verdicts plan older r number j (buffered_idle verdicts plan older (requests verdicts plan older) number r.0 fits.0)
after_step verdicts plan older (steps.Queue r) fit fits j =
    let idle : state older r.0 ≡ Some Idle = queued_idle verdicts plan older r.0 fits.0 in
    queued_request verdicts plan older r j idle (early_unbegun verdicts plan older fit r.0 (ap is_early idle))
after_step verdicts plan older (steps.Begin r) fit fits j = begun_request verdicts plan older r j (first_queued older r.0 fits.1.1)
after_step verdicts plan older (steps.Complete r) fit fits j = completed_request verdicts plan older r j (running_runs older r.0 fits.1)
after_step verdicts plan older (steps.Cancel r) fit fits j = cancelled_request verdicts plan older r j (cancelled_queued verdicts plan older r.0 fits.0)
after_step verdicts plan older steps.StreamOff fit fits j = off_request verdicts plan older j
after_step verdicts plan older (steps.Reinit r) fit fits j = renewed_request verdicts plan older r j (renewed_there verdicts plan older r.0 fits.0)
after_step verdicts plan older (steps.Free r) fit fits j = freed_request verdicts plan older r j
after_step verdicts plan older step fit fits j = same_fields verdicts plan older step j (λ s. rw (asked_same plan older j) refl)

-- a request after one more entry
pub request_more : (verdicts : Verdicts) (plan : PlanData) (e : Entry Step) (older : Past) → AllFit verdicts plan older → FitsFrames verdicts plan older e.step
    → (j : ℕ) → request verdicts plan (e ∷ older) j ≡ request_after verdicts plan older (length older) e.step j (request verdicts plan older j)
request_more verdicts plan e older fit fits j = fields_more verdicts plan e older j ∙ after_step verdicts plan older e.step fit fits j
