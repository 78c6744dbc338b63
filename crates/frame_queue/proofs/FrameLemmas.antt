-- The queue has exactly the queued requests, and the running one runs: each call keeps it so.
use Rattle.std.proofs.Common.{◌≡◌, ◌≢◌, ℕ, ◌∙◌, ◌||◌, Bool, true, false, not, cond, inl, inr, List, [], ◌∷◌, ◌++◌, map, filter, Option, None, Some, is_some, nat_eq, eq-eqb, refl, sym, ap, subst, slice_get, remove, if◌then◌else◌}
use Rattle.std.specs.List.{list_any}
use Rattle.std.specs.Option.{option_map, option_or, is_none}
use Rattle.std.proofs.lemmas.Bool.{or_from, or_parts}
use Rattle.std.proofs.lemmas.Bool.Decides.{eqb_tells}
use Rattle.std.proofs.lemmas.List.Folds.{list_any-append}
use Rattle.std.proofs.lemmas.Map.Views.{any-filter_same}
use Rattle.ctrl_types.specs.declared.value.CtrlValue.{CtrlValue}
use Rattle.ctrl_types.specs.declared.ids.Pair.{Pair}
use Rattle.ctrl_types.specs.declared.check.Check.TheVariants.{NotIdle, BufferMissing, RequestRunning, NotQueued, StillPending}
use Rattle.req_book.specs.declared.state.RequestState.{RequestState}
use Rattle.req_book.specs.declared.state.RequestState.TheVariants.{Idle, Queued, Running, Complete}
use Rattle.req_book.specs.Requests.{RequestData, RequestsData, HaveOwnIds, find, with_request, with_changed, queued, begun, completed, cleared, new_request, without, is_pending, is_number}
use Rattle.req_book.specs.Refusals.{queue_check, clear_check}
use Rattle.req_book.proofs.ObjectLemmas.{Tells}
use Rattle.req_book.proofs.FindLemmas.{find_added, find_changed, find_without}
use Rattle.frame_queue.specs.Frames.{FramesData, QueueFitsRequests, AreOnce, is_in, is_queued, is_running, queued_last, cancelled, cancel_check, running_done, after_complete, ended_request, after_off}

clash : {X : Type 0} → true ≡ false → X
clash h = cc

-- a number isn't another
apart : (j id : ℕ) → id ≢ j → nat_eq j id ≡ false
apart j id differ = by (eqb_tells j id)
  where
    by : Tells j id → nat_eq j id ≡ false
    by (inl same) = absurd (differ (sym same.1))
    by (inr other) = other.0

or_off : (b : Bool) → (b || false) ≡ b
or_off true = refl
or_off false = refl

-- one request is changed
pub kept_changed : (old : FramesData) (id : ℕ) (f : RequestData → RequestData) (queue : List ℕ) (running : Option ℕ) → QueueFitsRequests old → ((r : RequestData) → (f r).id ≡ r.id) → AreOnce queue
    → ((j : ℕ) → id ≢ j → list_any (nat_eq j) queue ≡ list_any (nat_eq j) old.queue) → list_any (nat_eq id) queue ≡ is_in is_queued (option_map f (find old.requests.all id))
    → ((j : ℕ) → id ≢ j → is_number running j ≡ is_number old.running j) → is_number running id ≡ is_in is_running (option_map f (find old.requests.all id))
    → ((r : RequestData) → find old.requests.all id ≡ Some r → is_queued (f r).state ≡ true → is_some (f r).buffer ≡ true)
    → QueueFitsRequests (record { requests = with_changed old.requests id f; queue = queue; running = running })
kept_changed old id f queue running kept keeps once others own runs_others runs_own holds =
    record { once = once; waits = λ j. waits j (eqb_tells id j); runs = λ j. runs j (eqb_tells id j); buffers = λ j r there waiting. buffers j r (eqb_tells id j) there waiting }
  where
    mapped : (r : RequestData) (o : Option RequestData) → find old.requests.all id ≡ o → option_map f o ≡ Some r → is_queued r.state ≡ true → is_some r.buffer ≡ true
    mapped r None is there = cc
    mapped r (Some q) is there = subst (λ (x : RequestData). is_queued x.state ≡ true → is_some x.buffer ≡ true) (same (f q) r there) (holds q is)
      where
        same : (a b : RequestData) → Some a ≡ Some b → a ≡ b
        same a b h = cc

    buffers : (j : ℕ) (r : RequestData) → Tells id j → find (with_request id f old.requests.all) j ≡ Some r → is_queued r.state ≡ true → is_some r.buffer ≡ true
    buffers j r (inl same) there =
        let is : find (with_request id f old.requests.all) j ≡ option_map f (find old.requests.all j) = rw same.0 at (find_changed old.requests.all id f j keeps) in
        mapped r (find old.requests.all id) refl (ap (λ i. option_map f (find old.requests.all i)) same.1 ∙ sym is ∙ there)
    buffers j r (inr other) there =
        let is : find (with_request id f old.requests.all) j ≡ find old.requests.all j = rw other.0 at (find_changed old.requests.all id f j keeps) in
        kept.buffers j r (sym is ∙ there)

    waits : (j : ℕ) → Tells id j → list_any (nat_eq j) queue ≡ is_in is_queued (find (with_request id f old.requests.all) j)
    waits j (inl same) =
        let is : find (with_request id f old.requests.all) j ≡ option_map f (find old.requests.all j) = rw same.0 at (find_changed old.requests.all id f j keeps) in
        subst (λ i. list_any (nat_eq i) queue ≡ is_in is_queued (option_map f (find old.requests.all i))) same.1 own ∙ ap (is_in is_queued) (sym is)
    waits j (inr other) =
        let is : find (with_request id f old.requests.all) j ≡ find old.requests.all j = rw other.0 at (find_changed old.requests.all id f j keeps) in
        others j other.1 ∙ kept.waits j ∙ ap (is_in is_queued) (sym is)

    runs : (j : ℕ) → Tells id j → is_number running j ≡ is_in is_running (find (with_request id f old.requests.all) j)
    runs j (inl same) =
        let is : find (with_request id f old.requests.all) j ≡ option_map f (find old.requests.all j) = rw same.0 at (find_changed old.requests.all id f j keeps) in
        subst (λ i. is_number running i ≡ is_in is_running (option_map f (find old.requests.all i))) same.1 runs_own ∙ ap (is_in is_running) (sym is)
    runs j (inr other) =
        let is : find (with_request id f old.requests.all) j ≡ find old.requests.all j = rw other.0 at (find_changed old.requests.all id f j keeps) in
        runs_others j other.1 ∙ kept.runs j ∙ ap (is_in is_running) (sym is)

-- a number behind others, of which it is none
once_last : (ids : List ℕ) (id : ℕ) → AreOnce ids → list_any (nat_eq id) ids ≡ false → AreOnce (ids ++ id ∷ [])
once_last [] id once none = (refl, tt)
once_last (k ∷ ks) id once none =
    let parts = or_parts (nat_eq id k) (list_any (nat_eq id) ks) none in
    (list_any-append (nat_eq k) ks (id ∷ []) ∙ or_from (list_any (nat_eq k) ks) (nat_eq k id || false) once.0 (or_from (nat_eq k id) false (apart k id (differ parts.0)) refl), once_last ks id once.1 parts.1)
  where
    differ : nat_eq id k ≡ false → id ≢ k
    differ off is = clash (sym (eq-eqb id k is) ∙ off)

once_filter : (test : ℕ → Bool) (ids : List ℕ) → AreOnce ids → AreOnce (filter test ids)
once_filter test [] once = tt
once_filter test (k ∷ ks) once = by (test k) (once_filter test ks once.1)
  where
    fewer : (b : Bool) (rest : List ℕ) → list_any (nat_eq k) rest ≡ false → list_any (nat_eq k) (filter test ks) ≡ false
    fewer b rest h = any_filter ks once.0
      where
        any_filter : (ms : List ℕ) → list_any (nat_eq k) ms ≡ false → list_any (nat_eq k) (filter test ms) ≡ false
        any_filter [] none = refl
        any_filter (m ∷ ms) none = pick (test m) (or_parts (nat_eq k m) (list_any (nat_eq k) ms) none).0 (any_filter ms (or_parts (nat_eq k m) (list_any (nat_eq k) ms) none).1)
          where
            pick : (b : Bool) → nat_eq k m ≡ false → list_any (nat_eq k) (filter test ms) ≡ false → list_any (nat_eq k) (cond b (m ∷ filter test ms) (filter test ms)) ≡ false
            pick true off rest = or_from (nat_eq k m) (list_any (nat_eq k) (filter test ms)) off rest
            pick false off rest = rest

    by : (b : Bool) → AreOnce (filter test ks) → AreOnce (cond b (k ∷ filter test ks) (filter test ks))
    by true rest = (fewer true ks once.0, rest)
    by false rest = rest

-- an idle request waits, the last
pub queued_kept : (old : FramesData) (id : ℕ) → QueueFitsRequests old → queue_check (find old.requests.all id) ≡ None → QueueFitsRequests (queued_last old id)
queued_kept old id kept passes = by (find old.requests.all id) refl passes
  where
    by : (o : Option RequestData) → find old.requests.all id ≡ o → queue_check o ≡ None → QueueFitsRequests (queued_last old id)
    by None is passes = cc
    by (Some r) is passes = idle r.state refl
      where
        same : (a b : RequestData) → Some a ≡ Some b → a ≡ b
        same a b h = cc

        buffered : (b : Option ℕ) → (if is_none b then Some BufferMissing else None) ≡ None → is_some b ≡ true
        buffered None h = cc
        buffered (Some n) h = refl

        idle : (s : RequestState) → r.state ≡ s → QueueFitsRequests (queued_last old id)
        idle Idle state =
            let off : list_any (nat_eq id) old.queue ≡ false = kept.waits id ∙ ap (is_in is_queued) is ∙ ap is_queued state in
            let still : is_number old.running id ≡ false = kept.runs id ∙ ap (is_in is_running) is ∙ ap is_running state in
            kept_changed old id (queued old.requests.controls) (old.queue ++ id ∷ []) old.running kept (λ q. refl) (once_last old.queue id kept.once off)
            (λ j differ. list_any-append (nat_eq j) old.queue (id ∷ []) ∙ ap (λ b. list_any (nat_eq j) old.queue || (b || false)) (apart j id differ) ∙ or_off (list_any (nat_eq j) old.queue))
            (list_any-append (nat_eq id) old.queue (id ∷ []) ∙ ap (λ b. b || (nat_eq id id || false)) off ∙ ap (λ b. b || false) (eq-eqb id id refl) ∙ sym (ap (λ o. is_in is_queued (option_map (queued old.requests.controls) o)) is))
            (λ j differ. refl)
            (still ∙ sym (ap (λ o. is_in is_running (option_map (queued old.requests.controls) o)) is))
            (λ q there waiting. ap (λ (x : RequestData). is_some x.buffer) (same q r (sym there ∙ is)) ∙ buffered r.buffer (rw state at passes))
        idle Queued state = absurd (refused (rw state at passes))
          where
            refused : Some NotIdle ≡ None → ⊥
            refused h = cc
        idle Running state = absurd (refused (rw state at passes))
          where
            refused : Some NotIdle ≡ None → ⊥
            refused h = cc
        idle Complete state = absurd (refused (rw state at passes))
          where
            refused : Some NotIdle ≡ None → ⊥
            refused h = cc

-- a request that is made to be complete neither waits nor runs
not_queued : (values : List CtrlValue) (o : Option RequestData) → is_in is_queued (option_map (completed values) o) ≡ false
not_queued values None = refl
not_queued values (Some r) = refl

not_running : (values : List CtrlValue) (o : Option RequestData) → is_in is_running (option_map (completed values) o) ≡ false
not_running values None = refl
not_running values (Some r) = refl

-- a request that waits doesn't run, and one that runs doesn't wait
waits_only : (o : Option RequestData) → is_in is_queued o ≡ true → is_in is_running o ≡ false
waits_only None h = refl
waits_only (Some r) h = by r.state h
  where
    by : (s : RequestState) → is_queued s ≡ true → is_running s ≡ false
    by Idle h = refl
    by Queued h = refl
    by Running h = cc
    by Complete h = refl

runs_only : (o : Option RequestData) → is_in is_running o ≡ true → is_in is_queued o ≡ false
runs_only None h = refl
runs_only (Some r) h = by r.state h
  where
    by : (s : RequestState) → is_running s ≡ true → is_queued s ≡ false
    by Idle h = refl
    by Queued h = cc
    by Running h = refl
    by Complete h = refl

-- the first that waits runs
pub begun_kept : (old : FramesData) (id : ℕ) (ids : List ℕ) (applied : List Pair) → QueueFitsRequests old → old.queue ≡ id ∷ ids → old.running ≡ None
    → QueueFitsRequests (record { requests = with_changed old.requests id (begun old.requests.controls applied); queue = ids; running = Some id })
begun_kept old id ids applied kept first none =
    let once : AreOnce (id ∷ ids) = subst AreOnce first kept.once in
    let was : true ≡ is_in is_queued (find old.requests.all id) = sym (ap (λ b. b || list_any (nat_eq id) ids) (eq-eqb id id refl)) ∙ ap (list_any (nat_eq id)) (sym first) ∙ kept.waits id in
    kept_changed old id (begun old.requests.controls applied) ids (Some id) kept (λ r. refl) once.1
    (λ j differ. sym (ap (λ b. b || list_any (nat_eq j) ids) (apart j id differ)) ∙ ap (list_any (nat_eq j)) (sym first))
    (once.0 ∙ sym (off (find old.requests.all id)))
    (λ j differ. other (eqb_tells id j) differ ∙ ap (λ o. is_number o j) (sym none))
    (eq-eqb id id refl ∙ runs (find old.requests.all id) was)
    (λ r there waiting. clash (sym waiting))
  where
    off : (o : Option RequestData) → is_in is_queued (option_map (begun old.requests.controls applied) o) ≡ false
    off None = refl
    off (Some r) = refl

    runs : (o : Option RequestData) → true ≡ is_in is_queued o → true ≡ is_in is_running (option_map (begun old.requests.controls applied) o)
    runs None h = h
    runs (Some r) h = refl

    other : {j : ℕ} → Tells id j → id ≢ j → nat_eq id j ≡ false
    other (inl same) differ = absurd (differ same.1)
    other (inr differs) differ = differs.0

-- the first that waits is complete
pub ended_kept : (old : FramesData) (id : ℕ) (ids : List ℕ) (values : List CtrlValue) → QueueFitsRequests old → old.queue ≡ id ∷ ids
    → QueueFitsRequests (record { requests = with_changed old.requests id (completed values); queue = ids; running = old.running })
ended_kept old id ids values kept first =
    let once : AreOnce (id ∷ ids) = subst AreOnce first kept.once in
    let was : true ≡ is_in is_queued (find old.requests.all id) = sym (ap (λ b. b || list_any (nat_eq id) ids) (eq-eqb id id refl)) ∙ ap (list_any (nat_eq id)) (sym first) ∙ kept.waits id in
    kept_changed old id (completed values) ids old.running kept (λ r. refl) once.1
    (λ j differ. sym (ap (λ b. b || list_any (nat_eq j) ids) (apart j id differ)) ∙ ap (list_any (nat_eq j)) (sym first))
    (once.0 ∙ sym (not_queued values (find old.requests.all id)))
    (λ j differ. refl)
    (kept.runs id ∙ waits_only (find old.requests.all id) (sym was) ∙ sym (not_running values (find old.requests.all id)))
    (λ r there waiting. clash (sym waiting))

-- the one that runs is complete
pub completed_kept : (old : FramesData) (id : ℕ) (values : List CtrlValue) → QueueFitsRequests old → old.running ≡ Some id
    → QueueFitsRequests (record { requests = with_changed old.requests id (completed values); queue = old.queue; running = None })
completed_kept old id values kept running =
    let was : true ≡ is_in is_running (find old.requests.all id) = sym (eq-eqb id id refl) ∙ ap (λ o. is_number o id) (sym running) ∙ kept.runs id in
    kept_changed old id (completed values) old.queue None kept (λ r. refl) kept.once (λ j differ. refl)
    (kept.waits id ∙ runs_only (find old.requests.all id) (sym was) ∙ sym (not_queued values (find old.requests.all id)))
    (λ j differ. sym (other (eqb_tells id j) differ) ∙ ap (λ o. is_number o j) (sym running))
    (sym (not_running values (find old.requests.all id)))
    (λ r there waiting. clash (sym waiting))
  where
    other : {j : ℕ} → Tells id j → id ≢ j → nat_eq id j ≡ false
    other (inl same) differ = absurd (differ same.1)
    other (inr differs) differ = differs.0

-- one that waits is taken from the queue
pub cancelled_kept : (old : FramesData) (id : ℕ) (values : List CtrlValue) → QueueFitsRequests old → cancel_check (find old.requests.all id) ≡ None → QueueFitsRequests (cancelled old id values)
cancelled_kept old id values kept passes =
    let was : is_in is_queued (find old.requests.all id) ≡ true = waiting (find old.requests.all id) passes in
    kept_changed old id (completed values) (filter (λ j. not (nat_eq id j)) old.queue) old.running kept (λ r. refl) (once_filter (λ j. not (nat_eq id j)) old.queue kept.once)
    (λ j differ. any-filter_same (nat_eq j) (λ k. not (nat_eq id k)) true (λ k is. left j k differ (eqb_tells j k) is) old.queue)
    (any-filter_same (nat_eq id) (λ k. not (nat_eq id k)) false (λ k is. ap not is) old.queue ∙ sym (not_queued values (find old.requests.all id)))
    (λ j differ. refl)
    (kept.runs id ∙ waits_only (find old.requests.all id) was ∙ sym (not_running values (find old.requests.all id)))
    (λ r there waiting. clash (sym waiting))
  where
    waiting : (o : Option RequestData) → cancel_check o ≡ None → is_in is_queued o ≡ true
    waiting None h = cc
    waiting (Some r) h = by r.state h
      where
        by : (s : RequestState) → (if is_running s then Some RequestRunning else if is_queued s then None else Some NotQueued) ≡ None → is_queued s ≡ true
        by Idle h = cc
        by Queued h = refl
        by Running h = cc
        by Complete h = cc

    left : (j k : ℕ) → id ≢ j → Tells j k → nat_eq j k ≡ true → not (nat_eq id k) ≡ true
    left j k differ (inl same) is = ap not (off (eqb_tells id k))
      where
        off : Tells id k → nat_eq id k ≡ false
        off (inl own) = absurd (differ (own.1 ∙ sym same.1))
        off (inr other) = other.0
    left j k differ (inr other) is = clash (sym is ∙ other.0)

-- a change that leaves the state of a request leaves the queue
pub state_kept : (old : FramesData) (id : ℕ) (f : RequestData → RequestData) → QueueFitsRequests old → ((r : RequestData) → (f r).id ≡ r.id) → ((r : RequestData) → (f r).state ≡ r.state)
    → ((r : RequestData) → is_some r.buffer ≡ true → is_some (f r).buffer ≡ true) → QueueFitsRequests (record { requests = with_changed old.requests id f; queue = old.queue; running = old.running })
state_kept old id f kept keeps same holds =
    kept_changed old id f old.queue old.running kept keeps kept.once (λ j differ. refl) (kept.waits id ∙ is is_queued (find old.requests.all id)) (λ j differ. refl) (kept.runs id ∙ is is_running (find old.requests.all id))
    (λ r there waiting. holds r (kept.buffers id r there (sym (ap is_queued (same r)) ∙ waiting)))
  where
    is : (test : RequestState → Bool) (o : Option RequestData) → is_in test o ≡ is_in test (option_map f o)
    is test None = refl
    is test (Some r) = ap test (sym (same r))

-- a request that may be emptied neither waits nor runs
pub rests : (o : Option RequestData) → clear_check o ≡ None → (is_in is_queued o ≡ false) × (is_in is_running o ≡ false)
rests None h = (refl, refl)
rests (Some r) h = by r.state h
  where
    by : (s : RequestState) → (if is_pending s then Some StillPending else None) ≡ None → (is_queued s ≡ false) × (is_running s ≡ false)
    by Idle h = (refl, refl)
    by Queued h = cc
    by Running h = cc
    by Complete h = (refl, refl)

-- one that neither waits nor runs is as new
pub cleared_kept : (old : FramesData) (id : ℕ) → QueueFitsRequests old → clear_check (find old.requests.all id) ≡ None → QueueFitsRequests (record { requests = with_changed old.requests id cleared; queue = old.queue; running = old.running })
cleared_kept old id kept passes =
    kept_changed old id cleared old.queue old.running kept (λ r. refl) kept.once (λ j differ. refl)
    (kept.waits id ∙ (rests (find old.requests.all id) passes).0 ∙ sym (idle (find old.requests.all id)).0) (λ j differ. refl)
    (kept.runs id ∙ (rests (find old.requests.all id) passes).1 ∙ sym (idle (find old.requests.all id)).1)
    (λ r there waiting. clash (sym waiting))
  where
    idle : (o : Option RequestData) → (is_in is_queued (option_map cleared o) ≡ false) × (is_in is_running (option_map cleared o) ≡ false)
    idle None = (refl, refl)
    idle (Some r) = (refl, refl)

-- one that neither waits nor runs is let go
pub freed_kept : (old : FramesData) (id : ℕ) → QueueFitsRequests old → clear_check (find old.requests.all id) ≡ None
    → QueueFitsRequests (record { requests = record old.requests { all = without id old.requests.all }; queue = old.queue; running = old.running })
freed_kept old id kept passes = record { once = kept.once; waits = λ j. waits j (eqb_tells id j); runs = λ j. runs j (eqb_tells id j); buffers = λ j r there. buffers j r (eqb_tells id j) there }
  where
    buffers : (j : ℕ) (r : RequestData) → Tells id j → find (without id old.requests.all) j ≡ Some r → is_queued r.state ≡ true → is_some r.buffer ≡ true
    buffers j r (inl same) there =
        let is : find (without id old.requests.all) j ≡ None = rw same.0 at (find_without old.requests.all id j) in
        absurd (gone (sym is ∙ there))
      where
        gone : None ≡ Some r → ⊥
        gone h = cc
    buffers j r (inr other) there =
        let is : find (without id old.requests.all) j ≡ find old.requests.all j = rw other.0 at (find_without old.requests.all id j) in
        kept.buffers j r (sym is ∙ there)

    waits : (j : ℕ) → Tells id j → list_any (nat_eq j) old.queue ≡ is_in is_queued (find (without id old.requests.all) j)
    waits j (inl same) =
        let is : find (without id old.requests.all) j ≡ None = rw same.0 at (find_without old.requests.all id j) in
        kept.waits j ∙ ap (λ i. is_in is_queued (find old.requests.all i)) (sym same.1) ∙ (rests (find old.requests.all id) passes).0 ∙ sym (ap (is_in is_queued) is)
    waits j (inr other) =
        let is : find (without id old.requests.all) j ≡ find old.requests.all j = rw other.0 at (find_without old.requests.all id j) in
        kept.waits j ∙ sym (ap (is_in is_queued) is)

    runs : (j : ℕ) → Tells id j → is_number old.running j ≡ is_in is_running (find (without id old.requests.all) j)
    runs j (inl same) =
        let is : find (without id old.requests.all) j ≡ None = rw same.0 at (find_without old.requests.all id j) in
        kept.runs j ∙ ap (λ i. is_in is_running (find old.requests.all i)) (sym same.1) ∙ (rests (find old.requests.all id) passes).1 ∙ sym (ap (is_in is_running) is)
    runs j (inr other) =
        let is : find (without id old.requests.all) j ≡ find old.requests.all j = rw other.0 at (find_without old.requests.all id j) in
        kept.runs j ∙ sym (ap (is_in is_running) is)

-- a new one neither waits nor runs
pub added_kept : (old : FramesData) (id : ℕ) → QueueFitsRequests old → find old.requests.all id ≡ None
    → QueueFitsRequests (record { requests = record old.requests { all = old.requests.all ++ new_request id ∷ [] }; queue = old.queue; running = old.running })
added_kept old id kept none = record {
  once = kept.once;
  waits = λ j. kept.waits j ∙ same is_queued refl (find old.requests.all j) (nat_eq j id) ∙ sym (ap (is_in is_queued) (find_added old.requests.all (new_request id) j));
  runs = λ j. kept.runs j ∙ same is_running refl (find old.requests.all j) (nat_eq j id) ∙ sym (ap (is_in is_running) (find_added old.requests.all (new_request id) j));
  buffers = λ j r there. waiting r (find old.requests.all j) (nat_eq j id) (kept.buffers j r) (sym (find_added old.requests.all (new_request id) j) ∙ there);
}
  where
    fresh_only : (r : RequestData) → Some (new_request id) ≡ Some r → is_queued r.state ≡ true → is_some r.buffer ≡ true
    fresh_only r is waits = clash (sym waits ∙ sym (ap (λ (x : RequestData). is_queued x.state) (same_some (new_request id) r is)))
      where
        same_some : (a b : RequestData) → Some a ≡ Some b → a ≡ b
        same_some a b h = cc

    waiting : (r : RequestData) (o : Option RequestData) (b : Bool) → (o ≡ Some r → is_queued r.state ≡ true → is_some r.buffer ≡ true) → option_or o (cond b (Some (new_request id)) None) ≡ Some r
        → is_queued r.state ≡ true → is_some r.buffer ≡ true
    waiting r None true holds is = fresh_only r is
    waiting r None false holds is = cc
    waiting r (Some q) b holds is = holds is

    same : (test : RequestState → Bool) → test Idle ≡ false → (o : Option RequestData) (b : Bool) → is_in test o ≡ is_in test (option_or o (cond b (Some (new_request id)) None))
    same test idle None true = sym idle
    same test idle None false = refl
    same test idle (Some r) b = refl

-- the first of a list that has one
pub first_is : (ids : List ℕ) (id : ℕ) → slice_get ids 0 ≡ Some id → ids ≡ id ∷ remove ids 0
first_is [] id h = cc
first_is (k ∷ ks) id h = ap (λ i. i ∷ ks) (same k id h)
  where
    same : (a b : ℕ) → Some a ≡ Some b → a ≡ b
    same a b h = cc

-- the requests, where those with these ids were completed one after another
abbrev pub ended : List CtrlValue → List ℕ → RequestsData → RequestsData
ended values [] requests = requests
ended values (id ∷ ids) requests = ended values ids (with_changed requests id (completed values))

-- what is left once all that wait were
abbrev pub stopped : List CtrlValue → FramesData → FramesData
stopped values f = record { requests = ended values f.queue f.requests; queue = []; running = f.running }

-- where none waits, nothing is left to stop
pub at_end : (values : List CtrlValue) (f : FramesData) → slice_get f.queue 0 ≡ None → stopped values f ≡ f
at_end values f none = ap (λ ids. whole (ended values ids f.requests)) empty ∙ ap (λ ids. record { requests = f.requests; queue = ids; running = f.running }) (sym empty)
  where
    whole : RequestsData → FramesData
    whole requests = record { requests = requests; queue = []; running = f.running }

    by : (ids : List ℕ) → slice_get ids 0 ≡ None → ids ≡ []
    by [] h = refl
    by (k ∷ ks) h = cc

    empty : f.queue ≡ []
    empty = by f.queue none

-- once the stream is off, it makes no difference that one that waited or ran was completed before
ended_first : (values : List CtrlValue) (rs : List RequestData) (id : ℕ) → ((r : RequestData) → find rs id ≡ Some r → is_pending r.state ≡ true)
    → map (ended_request values) (with_request id (completed values) rs) ≡ map (ended_request values) rs
ended_first values [] id pending = refl
ended_first values (r ∷ rs) id pending = by (nat_eq id r.id) pending (ended_first values rs id)
  where
    by : (b : Bool) → ((q : RequestData) → cond b (Some r) (find rs id) ≡ Some q → is_pending q.state ≡ true)
        → (((q : RequestData) → find rs id ≡ Some q → is_pending q.state ≡ true) → map (ended_request values) (with_request id (completed values) rs) ≡ map (ended_request values) rs)
        → map (ended_request values) (cond b (completed values r ∷ rs) (r ∷ with_request id (completed values) rs)) ≡ ended_request values r ∷ map (ended_request values) rs
    by true pending rest = rw (pending r refl) refl
    by false pending rest = ap (λ qs. ended_request values r ∷ qs) (rest pending)

-- where no request waits or runs, the end of the stream leaves them all
none_ends : (values : List CtrlValue) (rs : List RequestData) → HaveOwnIds rs → ((id : ℕ) → is_in is_pending (find rs id) ≡ false) → map (ended_request values) rs ≡ rs
none_ends values [] own none = refl
none_ends values (r ∷ rs) own none =
    let rests : is_pending r.state ≡ false = subst (λ (b : Bool). is_in is_pending (cond b (Some r) (find rs r.id)) ≡ false) (eq-eqb r.id r.id refl) (none r.id) in
    rw (rests, none_ends values rs own.1 (λ id. further id (eqb_tells id r.id))) refl
  where
    further : (id : ℕ) → Tells id r.id → is_in is_pending (find rs id) ≡ false
    further id (inl same) = ap (λ i. is_in is_pending (find rs i)) same.1 ∙ ap (is_in is_pending) own.0
    further id (inr other) = rw other.0 at (none id)

-- a change that keeps the ids keeps them apart
pub own_changed : (rs : List RequestData) (id : ℕ) (f : RequestData → RequestData) → ((r : RequestData) → (f r).id ≡ r.id) → HaveOwnIds rs → HaveOwnIds (with_request id f rs)
own_changed [] id f keeps own = tt
own_changed (r ∷ rs) id f keeps own = by (nat_eq id r.id) (own_changed rs id f keeps own.1)
  where
    none : (b : Bool) (o : Option RequestData) → o ≡ None → cond b (option_map f o) o ≡ None
    none true o is = ap (option_map f) is
    none false o is = is

    by : (b : Bool) → HaveOwnIds (with_request id f rs) → HaveOwnIds (cond b (f r ∷ rs) (r ∷ with_request id f rs))
    by true rest = (ap (find rs) (keeps r) ∙ own.0, own.1)
    by false rest = (find_changed rs id f r.id keeps ∙ none (nat_eq id r.id) (find rs r.id) own.0, rest)

-- so does a request with an id that none has
pub own_added : (rs : List RequestData) (id : ℕ) → HaveOwnIds rs → find rs id ≡ None → HaveOwnIds (rs ++ new_request id ∷ [])
own_added [] id own none = (refl, tt)
own_added (r ∷ rs) id own none = by (eqb_tells id r.id) none (own_added rs id own.1)
  where
    found : Some r ≡ None → ⊥
    found h = cc

    by : Tells id r.id → cond (nat_eq id r.id) (Some r) (find rs id) ≡ None → (find rs id ≡ None → HaveOwnIds (rs ++ new_request id ∷ [])) → HaveOwnIds (r ∷ rs ++ new_request id ∷ [])
    by (inl same) none rest = absurd (found (rw same.0 at none))
    by (inr other) none rest = (find_added rs (new_request id) r.id ∙ rw (own.0, apart r.id id other.1) refl, rest (rw other.0 at none))

-- and one that is let go
pub own_without : (rs : List RequestData) (id : ℕ) → HaveOwnIds rs → HaveOwnIds (without id rs)
own_without [] id own = tt
own_without (r ∷ rs) id own = by (nat_eq id r.id) (own_without rs id own.1)
  where
    none : (b : Bool) (o : Option RequestData) → o ≡ None → cond b None o ≡ None
    none true o is = refl
    none false o is = is

    by : (b : Bool) → HaveOwnIds (without id rs) → HaveOwnIds (cond (not b) (r ∷ without id rs) (without id rs))
    by true rest = rest
    by false rest = (find_without rs id r.id ∙ none (nat_eq id r.id) (find rs r.id) own.0, rest)

-- all that wait were completed one after another
queue_ended : (values : List CtrlValue) (requests : RequestsData) (ids : List ℕ) → QueueFitsRequests (record { requests = requests; queue = ids; running = None }) → HaveOwnIds requests.all
    → ended values ids requests ≡ record requests { all = map (ended_request values) requests.all }
queue_ended values requests [] kept own = ap (λ (rs : List RequestData). record requests { all = rs }) (sym (none_ends values requests.all own (λ id. neither (find requests.all id) (sym (kept.waits id)) (sym (kept.runs id)))))
  where
    neither : (o : Option RequestData) → is_in is_queued o ≡ false → is_in is_running o ≡ false → is_in is_pending o ≡ false
    neither None waits runs = refl
    neither (Some r) waits runs = by r.state waits runs
      where
        by : (s : RequestState) → is_queued s ≡ false → is_running s ≡ false → is_pending s ≡ false
        by Idle waits runs = refl
        by Queued waits runs = waits
        by Running waits runs = runs
        by Complete waits runs = refl
queue_ended values requests (id ∷ ids) kept own =
    queue_ended values (with_changed requests id (completed values)) ids (ended_kept (record { requests = requests; queue = id ∷ ids; running = None }) id ids values kept refl) (own_changed requests.all id (completed values) (λ r. refl) own)
    ∙ ap (λ (rs : List RequestData). record requests { all = rs }) (ended_first values requests.all id (λ r there. pending r.state (sym (ap (is_in is_queued) there) ∙ sym was)))
  where
    was : true ≡ is_in is_queued (find requests.all id)
    was = sym (ap (λ b. b || list_any (nat_eq id) ids) (eq-eqb id id refl)) ∙ kept.waits id

    pending : (s : RequestState) → is_queued s ≡ true → is_pending s ≡ true
    pending Idle h = h
    pending Queued h = refl
    pending Running h = refl
    pending Complete h = h

-- the one that runs was completed, and all that wait, one after another: this is what is left once the stream is off
pub all_ended : (values : List CtrlValue) (f : FramesData) → QueueFitsRequests f → HaveOwnIds f.requests.all → stopped values (after_complete f values) ≡ after_off f values
all_ended values f kept own = by f.running refl
  where
    off : RequestsData → FramesData
    off requests = record { requests = requests; queue = []; running = None }

    pending : (s : RequestState) → is_running s ≡ true → is_pending s ≡ true
    pending Idle h = h
    pending Queued h = refl
    pending Running h = refl
    pending Complete h = h

    by : (o : Option ℕ) → f.running ≡ o → stopped values (running_done values f.requests f.queue o) ≡ after_off f values
    by None is = ap off (queue_ended values f.requests f.queue (subst (λ (o : Option ℕ). QueueFitsRequests (record { requests = f.requests; queue = f.queue; running = o })) is kept) own)
    by (Some id) is =
        let was : true ≡ is_in is_running (find f.requests.all id) = sym (eq-eqb id id refl) ∙ ap (λ o. is_number o id) (sym is) ∙ kept.runs id in
        ap off
        (queue_ended values (with_changed f.requests id (completed values)) f.queue (completed_kept f id values kept is) (own_changed f.requests.all id (completed values) (λ r. refl) own)
        ∙ ap (λ (rs : List RequestData). record f.requests { all = rs }) (ended_first values f.requests.all id (λ r there. pending r.state (sym (ap (is_in is_running) there) ∙ sym was))))

-- once the stream is off, an id finds its request as it is then
find_ended : (values : List CtrlValue) (rs : List RequestData) (id : ℕ) → find (map (ended_request values) rs) id ≡ option_map (ended_request values) (find rs id)
find_ended values [] id = refl
find_ended values (r ∷ rs) id = ap (λ i. cond (nat_eq id i) (Some (ended_request values r)) (find (map (ended_request values) rs) id)) (same (is_pending r.state)) ∙ by (nat_eq id r.id) (find_ended values rs id)
  where
    same : (b : Bool) → (cond b (completed values r) r).id ≡ r.id
    same true = refl
    same false = refl

    by : (b : Bool) → find (map (ended_request values) rs) id ≡ option_map (ended_request values) (find rs id)
        → cond b (Some (ended_request values r)) (find (map (ended_request values) rs) id) ≡ option_map (ended_request values) (cond b (Some r) (find rs id))
    by true rest = refl
    by false rest = rest

-- once the stream is off, nothing waits, and nothing runs
pub off_kept : (values : List CtrlValue) (f : FramesData) → QueueFitsRequests (after_off f values)
off_kept values f = record {
  once = tt;
  waits = λ id. sym (off is_queued refl waits id);
  runs = λ id. sym (off is_running refl runs id);
  buffers = λ id r there waiting. clash (sym waiting ∙ sym (ap (is_in is_queued) there) ∙ off is_queued refl waits id);
}
  where
    waits : (s : RequestState) → is_pending s ≡ false → is_queued s ≡ false
    waits Idle h = refl
    waits Queued h = h
    waits Running h = refl
    waits Complete h = refl

    runs : (s : RequestState) → is_pending s ≡ false → is_running s ≡ false
    runs Idle h = refl
    runs Queued h = refl
    runs Running h = h
    runs Complete h = refl

    off : (test : RequestState → Bool) → test Complete ≡ false → ((s : RequestState) → is_pending s ≡ false → test s ≡ false) → (id : ℕ) → is_in test (find (map (ended_request values) f.requests.all) id) ≡ false
    off test done others id = ap (is_in test) (find_ended values f.requests.all id) ∙ by (find f.requests.all id)
      where
        by : (o : Option RequestData) → is_in test (option_map (ended_request values) o) ≡ false
        by None = refl
        by (Some r) = state (is_pending r.state) refl
          where
            state : (b : Bool) → is_pending r.state ≡ b → test (cond b (completed values r) r).state ≡ false
            state true is = done
            state false is = others r.state is
