-- The queue has a place for each request that there can be: each call keeps it so.
use Rattle.std.proofs.Common.{◌≡◌, ℕ, suc, ◌+◌, ◌<◌, ◌≤◌, ◌||◌, Bool, true, false, not, cond, inl, inr, List, [], ◌∷◌, ◌++◌, length, Option, None, Some, is_some, Result, Ok, Err, OnOk, OnErr, nat_eq, nat_le, eq-eqb, refl, sym, ap, ◌∙◌, subst, arith, length-append, if◌then◌else◌}
use Rattle.std.specs.List.{list_any}
use Rattle.std.specs.declared.alloc.AllocError.{AllocError}
use Rattle.std.proofs.lemmas.Bool.Decides.{eqb_tells, nat_tests}
use Rattle.ctrl_types.specs.declared.check.Check.TheVariants.{TooManyRequests}
use Rattle.req_book.specs.declared.limits.TheConstants.{MAX_REQUESTS}
use Rattle.req_book.specs.Requests.{RequestData, RequestsData, HaveOwnIds, with_changed, find, new_request, queued, with_request, without}
use Rattle.req_book.specs.Refusals.{alloc_check, queue_check}
use Rattle.req_book.proofs.ObjectLemmas.{Tells}
use Rattle.req_book.proofs.FindLemmas.{find_without}
use Rattle.frame_queue.specs.Frames.{FramesData, QueueFitsRequests, AreOnce, is_in, is_queued, queued_last, with_requests}
use Rattle.frame_queue.specs.Places.{HasQueueRoom}
use Rattle.frame_queue.proofs.FrameLemmas.{own_changed, queued_kept}

clash : {X : Type 0} → true ≡ false → X
clash h = cc

-- the queue of no request
pub none_kept : (controls : ℕ) → QueueFitsRequests (record { requests = record { controls = controls; all = [] }; queue = []; running = None })
none_kept controls = record { once = tt; waits = λ id. refl; runs = λ id. refl; buffers = λ id r there waiting. none r there }
  where
    none : (r : RequestData) → None ≡ Some r → is_some r.buffer ≡ true
    none r h = cc

-- a change leaves as many requests
pub many_changed : (rs : List RequestData) (id : ℕ) (f : RequestData → RequestData) → length (with_request id f rs) ≡ length rs
many_changed [] id f = refl
many_changed (r ∷ rs) id f = by (nat_eq id r.id) (many_changed rs id f)
  where
    by : (b : Bool) → length (with_request id f rs) ≡ length rs → length (cond b (f r ∷ rs) (r ∷ with_request id f rs)) ≡ suc (length rs)
    by true rest = refl
    by false rest = ap suc rest

-- the same of a whole store
pub many_after : (old new : RequestsData) (id : ℕ) (f : RequestData → RequestData) → new ≡ with_changed old id f → length new.all ≡ length old.all
many_after old new id f is = ap (λ (r : RequestsData). length r.all) is ∙ many_changed old.all id f

-- without one there are no more
pub no_more_without : (rs : List RequestData) (id : ℕ) → length (without id rs) ≤ length rs
no_more_without [] id = omega arith
no_more_without (r ∷ rs) id = by (nat_eq id r.id) (no_more_without rs id)
  where
    by : (b : Bool) → length (without id rs) ≤ length rs → length (cond (not b) (r ∷ without id rs) (without id rs)) ≤ suc (length rs)
    by true rest = omega (arith, rest)
    by false rest = omega (arith, rest)

-- and less, where it is there
fewer_without : (rs : List RequestData) (id : ℕ) → is_some (find rs id) ≡ true → length (without id rs) < length rs
fewer_without [] id there = cc
fewer_without (r ∷ rs) id there = by (nat_eq id r.id) there (fewer_without rs id)
  where
    by : (b : Bool) → is_some (cond b (Some r) (find rs id)) ≡ true → (is_some (find rs id) ≡ true → length (without id rs) < length rs) → length (cond (not b) (r ∷ without id rs) (without id rs)) < suc (length rs)
    by true is rest = omega (arith, no_more_without rs id)
    by false is rest = omega (arith, rest is)

-- distinct numbers that each name a request are no more than the requests
named_few : (ids : List ℕ) (rs : List RequestData) → AreOnce ids → ((j : ℕ) → list_any (nat_eq j) ids ≡ true → is_some (find rs j) ≡ true) → length ids ≤ length rs
named_few [] rs once named = omega arith
named_few (id ∷ ids) rs once named =
    let there : is_some (find rs id) ≡ true = named id (ap (λ b. b || list_any (nat_eq id) ids) (eq-eqb id id refl)) in
    omega (arith, fewer_without rs id there, named_few ids (without id rs) once.1 (λ j among. left j (eqb_tells id j) among))
  where
    or_on : (b c : Bool) → c ≡ true → (b || c) ≡ true
    or_on true c h = refl
    or_on false c h = h

    left : (j : ℕ) → Tells id j → list_any (nat_eq j) ids ≡ true → is_some (find (without id rs) j) ≡ true
    left j (inl same) among = clash (sym among ∙ ap (λ k. list_any (nat_eq k) ids) (sym same.1) ∙ once.0)
    left j (inr other) among =
        let is : find (without id rs) j ≡ find rs j = rw other.0 at (find_without rs id j) in
        ap is_some is ∙ named j (or_on (nat_eq j id) (list_any (nat_eq j) ids) among)

-- no more wait than there are
pub waiting_few : (f : FramesData) → QueueFitsRequests f → length f.queue ≤ length f.requests.all
waiting_few f kept = named_few f.queue f.requests.all kept.once (λ j among. there (find f.requests.all j) (sym (kept.waits j) ∙ among))
  where
    there : (o : Option RequestData) → is_in is_queued o ≡ true → is_some o ≡ true
    there None h = h
    there (Some r) h = refl

-- one that is queued is one of those that there can be, and didn't wait before
pub one_fits : (old : FramesData) (room id : ℕ) → HasQueueRoom old room → queue_check (find old.requests.all id) ≡ None → length old.queue + 1 ≤ MAX_REQUESTS
one_fits old room id kept passes =
    let few = waiting_few (queued_last old id) (queued_kept old id kept.frames passes) in
    omega (arith, few, length-append old.queue (id ∷ []), many_changed old.requests.all id (queued old.requests.controls), kept.few)

-- a change of a request leaves each its own id
pub own_after : (old new : RequestsData) (id : ℕ) (f : RequestData → RequestData) → ((r : RequestData) → (f r).id ≡ r.id) → new ≡ with_changed old id f → HaveOwnIds old.all → HaveOwnIds new.all
own_after old new id f keeps is own = subst (λ (r : RequestsData). HaveOwnIds r.all) (sym is) (own_changed old.all id f keeps own)

-- a call that may want memory: where it made its change, that kept the places, and else it left the requests
pub either_places : (old : FramesData) (room : ℕ) (requests new : RequestsData) (r : Result (Unit {0}) AllocError) → HasQueueRoom old room → HasQueueRoom (with_requests old new) room → OnOk r (requests ≡ new) → OnErr r (requests ≡ old.requests)
    → HasQueueRoom (with_requests old requests) room
either_places old room requests new (Ok done) kept made ok err = subst (λ (x : RequestsData). HasQueueRoom (with_requests old x) room) (sym ok) made
either_places old room requests new (Err error) kept made ok err = subst (λ (x : RequestsData). HasQueueRoom (with_requests old x) room) (sym err) kept

-- a request that is made is one of those that there can be
pub made_few : (rs : List RequestData) (id : ℕ) → alloc_check rs ≡ None → length (rs ++ new_request id ∷ []) ≤ MAX_REQUESTS
made_few rs id passes = by (nat_le MAX_REQUESTS (length rs)) refl passes
  where
    by : (b : Bool) → nat_le MAX_REQUESTS (length rs) ≡ b → (if b then Some TooManyRequests else None) ≡ None → length (rs ++ new_request id ∷ []) ≤ MAX_REQUESTS
    by true is h = cc
    by false is h = let less : length rs < MAX_REQUESTS = grind (arith, nat_tests, is) in omega (arith, less, length-append rs (new_request id ∷ []))
