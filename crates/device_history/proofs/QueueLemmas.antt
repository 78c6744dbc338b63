-- The queue and the frame that is being made, after one more entry.
use Rattle.std.proofs.Common.{◌≡◌, ℕ, ◌∙◌, Bool, true, false, cond, List, [], ◌∷◌, ◌++◌, length, filter, Option, None, Some, nat_eq, eq-eqb, refl, ap, unwrap_or}
use Rattle.std.specs.Option.{option_map, option_or}
use Rattle.std.proofs.lemmas.List.Elements.{filter-append}
use Rattle.history.specs.declared.entry.Entry.{Entry}
use Rattle.req_book.specs.declared.state.RequestState.{RequestState}
use Rattle.req_book.specs.declared.state.RequestState.TheVariants as states
use Rattle.frame_queue.specs.Frames.{is_queued, is_running}
use Rattle.device_history.specs.declared.ask.Step.{Step}
use Rattle.device_history.specs.declared.ask.Step.TheVariants.{Alloc, Store, Buffer, Queue, Begin, Complete, Cancel, StreamOff, Reinit, Free}
use Rattle.device_history.specs.Steps.{Past}
use Rattle.device_history.specs.Requests.{state, state_after, state_of_named, is_there, ended_state}
use Rattle.device_history.specs.Frames.{all_but, begun_by, ever_queued, queue, queue_after, last_begun, if_running, running, running_after, unless_equal}
use Rattle.device_history.proofs.StateLemmas.{state_more}
use Rattle.device_history.proofs.QueueingLemmas.{queued_by, with_last, ever_queued_more}

-- tests that agree keep the same
alike : (p q : ℕ → Bool) (ids : List ℕ) → ((j : ℕ) → p j ≡ q j) → filter p ids ≡ filter q ids
alike p q [] same = refl
alike p q (j ∷ ids) same = rw (same j, alike p q ids same) refl

-- a test that nothing passes
none_left : (p : ℕ → Bool) (ids : List ℕ) → ((j : ℕ) → p j ≡ false) → filter p ids ≡ []
none_left p [] off = refl
none_left p (j ∷ ids) off = rw (off j) (none_left p ids off)

-- a test that drops one number more
cut : (r : ℕ) (p q : ℕ → Bool) (ids : List ℕ) → ((j : ℕ) → p j ≡ cond (nat_eq r j) false (q j)) → filter p ids ≡ all_but r (filter q ids)
cut r p q [] drops = refl
cut r p q (j ∷ ids) drops = by (q j) (nat_eq r j) refl refl (cut r p q ids drops)
  where
    by : (a b : Bool) → q j ≡ a → nat_eq r j ≡ b → filter p ids ≡ all_but r (filter q ids) → filter p (j ∷ ids) ≡ all_but r (filter q (j ∷ ids))
    by true true f g rest = rw (drops j, f, g) rest
    by true false f g rest = rw (drops j, f, g, rest) refl
    by false true f g rest = rw (drops j, f, g) rest
    by false false f g rest = rw (drops j, f, g) rest

-- a test that passes one number more, which isn't there
added : (r : ℕ) (p q : ℕ → Bool) (ids : List ℕ) → ((j : ℕ) → p j ≡ cond (nat_eq r j) true (q j)) → filter p (all_but r ids) ≡ all_but r (filter q ids)
added r p q [] passes = refl
added r p q (j ∷ ids) passes = by (q j) (nat_eq r j) refl refl (added r p q ids passes)
  where
    by : (a b : Bool) → q j ≡ a → nat_eq r j ≡ b → filter p (all_but r ids) ≡ all_but r (filter q ids) → filter p (all_but r (j ∷ ids)) ≡ all_but r (filter q (j ∷ ids))
    by true true f g rest = rw (f, g) rest
    by true false f g rest = rw (f, g, passes j, g, f, rest) refl
    by false true f g rest = rw (f, g) rest
    by false false f g rest = rw (f, g, passes j, g, f) rest

-- a request is in a state as it was, but where a step names it
named : (test : RequestState → Bool) (b : Bool) (r : ℕ) (left before : Option RequestState) (j : ℕ) → is_there test left ≡ b
    → is_there test (unwrap_or (state_of_named j (Some (r, left))) before) ≡ cond (nat_eq r j) b (is_there test before)
named test b r left before j is = by (nat_eq r j)
  where
    by : (c : Bool) → is_there test (unwrap_or (cond c (Some left) None) before) ≡ cond c b (is_there test before)
    by true = is
    by false = refl

-- nothing waits, and nothing runs, once the stream was stopped
ended : (test : RequestState → Bool) → ((s : RequestState) → test (ended_state s) ≡ false) → (before : Option RequestState) → is_there test (option_map ended_state before) ≡ false
ended test off None = refl
ended test off (Some s) = off s

waits_not : (s : RequestState) → is_queued (ended_state s) ≡ false
waits_not states.Queued = refl
waits_not _ = refl

runs_not : (s : RequestState) → is_running (ended_state s) ≡ false
runs_not states.Running = refl
runs_not _ = refl

-- a request is in a state after one more entry where the entry's step makes it so
there_more : (test : RequestState → Bool) (e : Entry Step) (older : Past) (step : Step) → e.step ≡ step → (j : ℕ) → is_there test (state (e ∷ older) j) ≡ is_there test (state_after (length older) step j (state older j))
there_more test e older step is j = ap (is_there test) (state_more e older j ∙ ap (λ (s : Step). state_after (length older) s j (state older j)) is)

-- the queue after one more entry
pub queue_more : (e : Entry Step) (older : Past) → queue (e ∷ older) ≡ queue_after (length older) e.step (queue older)
queue_more e older = rw (ever_queued_more e older) (by e.step refl)
  where
    test : ℕ → Bool
    test j = is_there is_queued (state (e ∷ older) j)

    dropped : (step : Step) → e.step ≡ step → (r : ℕ) (left : Option RequestState) → is_there is_queued left ≡ false
        → ((j : ℕ) → is_there is_queued (state_after (length older) step j (state older j)) ≡ is_there is_queued (unwrap_or (state_of_named j (Some (r, left))) (state older j)))
        → filter test (ever_queued older) ≡ all_but r (queue older)
    dropped step is r left off same =
        cut r test (λ j. is_there is_queued (state older j)) (ever_queued older) (λ j. there_more is_queued e older step is j ∙ same j ∙ named is_queued false r left (state older j) j off)

    by : (step : Step) → e.step ≡ step → filter test (with_last (queued_by step) (ever_queued older)) ≡ queue_after (length older) step (queue older)
    by Alloc is = dropped Alloc is (length older) (Some states.Idle) refl (λ j. refl)
    by (Store r pairs) is = dropped _ is r.0 (Some states.Idle) refl (λ j. refl)
    by (Buffer r number) is = dropped _ is r.0 (Some states.Idle) refl (λ j. refl)
    by (Queue r) is =
        let tests : (j : ℕ) → test j ≡ cond (nat_eq r.0 j) true (is_there is_queued (state older j)) = λ j. there_more is_queued e older _ is j ∙ named is_queued true r.0 (Some states.Queued) (state older j) j refl in
        let own : test r.0 ≡ true = tests r.0 ∙ ap (λ b. cond b true (is_there is_queued (state older r.0))) (eq-eqb r.0 r.0 refl) in
        filter-append test (all_but r.0 (ever_queued older)) (r.0 ∷ []) ∙ ap (λ b. filter test (all_but r.0 (ever_queued older)) ++ cond b (r.0 ∷ []) []) own
        ∙ ap (λ ids. ids ++ r.0 ∷ []) (added r.0 test (λ j. is_there is_queued (state older j)) (ever_queued older) tests)
    by (Begin r) is = dropped _ is r.0 (Some states.Running) refl (λ j. refl)
    by (Complete r) is = dropped _ is r.0 (Some states.Complete) refl (λ j. refl)
    by (Cancel r) is = dropped _ is r.0 (Some states.Complete) refl (λ j. refl)
    by StreamOff is = none_left test (ever_queued older) (λ j. there_more is_queued e older _ is j ∙ ended is_queued waits_not (state older j))
    by (Reinit r) is = dropped _ is r.0 (Some states.Idle) refl (λ j. refl)
    by (Free r) is = dropped _ is r.0 None refl (λ j. refl)
    by _ is = alike test _ (ever_queued older) (there_more is_queued e older _ is)

-- the frame that is being made after one more entry
pub running_more : (e : Entry Step) (older : Past) → running (e ∷ older) ≡ running_after (length older) e.step (running older)
unfolding last_begun
running_more e older = by e.step refl
  where
    same : (o : Option ℕ) → ((j : ℕ) → is_there is_running (state (e ∷ older) j) ≡ is_there is_running (state older j)) → if_running (e ∷ older) o ≡ if_running older o
    same None tests = refl
    same (Some k) tests = ap (λ b. cond b (Some k) None) (tests k)

    left : (r : ℕ) (o : Option ℕ) → ((j : ℕ) → is_there is_running (state (e ∷ older) j) ≡ cond (nat_eq r j) false (is_there is_running (state older j))) → if_running (e ∷ older) o ≡ unless_equal r (if_running older o)
    left r None tests = refl
    left r (Some k) tests = ap (λ b. cond b (Some k) None) (tests k) ∙ both (nat_eq r k) (is_there is_running (state older k)) refl
      where
        both : (a b : Bool) → nat_eq r k ≡ a → cond (cond a false b) (Some k) None ≡ unless_equal r (cond b (Some k) None)
        both true true is = rw is refl
        both true false is = refl
        both false true is = rw is refl
        both false false is = refl

    off : (o : Option ℕ) → ((j : ℕ) → is_there is_running (state (e ∷ older) j) ≡ false) → if_running (e ∷ older) o ≡ None
    off None tests = refl
    off (Some k) tests = ap (λ b. cond b (Some k) None) (tests k)

    dropped : (step : Step) → e.step ≡ step → (r : ℕ) (state_left : Option RequestState) → is_there is_running state_left ≡ false
        → ((j : ℕ) → is_there is_running (state_after (length older) step j (state older j)) ≡ is_there is_running (unwrap_or (state_of_named j (Some (r, state_left))) (state older j)))
        → if_running (e ∷ older) (last_begun older) ≡ unless_equal r (running older)
    dropped step is r state_left none same_state =
        left r (last_begun older) (λ j. there_more is_running e older step is j ∙ same_state j ∙ named is_running false r state_left (state older j) j none)

    by : (step : Step) → e.step ≡ step → if_running (e ∷ older) (option_or (begun_by step) (last_begun older)) ≡ running_after (length older) step (running older)
    by Alloc is = dropped Alloc is (length older) (Some states.Idle) refl (λ j. refl)
    by (Store r pairs) is = dropped _ is r.0 (Some states.Idle) refl (λ j. refl)
    by (Buffer r number) is = dropped _ is r.0 (Some states.Idle) refl (λ j. refl)
    by (Queue r) is = dropped _ is r.0 (Some states.Queued) refl (λ j. refl)
    by (Begin r) is =
        let own : is_there is_running (state (e ∷ older) r.0) ≡ true =
        there_more is_running e older _ is r.0 ∙ named is_running true r.0 (Some states.Running) (state older r.0) r.0 refl ∙ ap (λ b. cond b true (is_there is_running (state older r.0))) (eq-eqb r.0 r.0 refl) in
        ap (λ b. cond b (Some r.0) None) own
    by (Complete r) is = dropped _ is r.0 (Some states.Complete) refl (λ j. refl)
    by (Cancel r) is = dropped _ is r.0 (Some states.Complete) refl (λ j. refl)
    by StreamOff is = off (last_begun older) (λ j. there_more is_running e older _ is j ∙ ended is_running runs_not (state older j))
    by (Reinit r) is = dropped _ is r.0 (Some states.Idle) refl (λ j. refl)
    by (Free r) is = dropped _ is r.0 None refl (λ j. refl)
    by _ is = same (last_begun older) (there_more is_running e older _ is)
