-- Requests as a list: the numbers of those that were ever made, and what a change of one, or of all, makes of those that are there.
use Rattle.std.proofs.Common.{◌≡◌, ℕ, ◌≤◌, ◌∙◌, ◌||◌, Bool, true, false, cond, inl, inr, List, [], ◌∷◌, ◌++◌, length, map, filter_map, Option, None, Some, nat_eq, refl, sym, ap, arith}
use Rattle.std.specs.List.{list_any, cons_option}
use Rattle.std.specs.Option.{option_map}
use Rattle.std.proofs.lemmas.Bool.{or_from, or_parts}
use Rattle.std.proofs.lemmas.Bool.Decides.{eqb_tells, nat_tests}
use Rattle.std.proofs.lemmas.List.Folds.{list_any-append}
use Rattle.req_book.specs.Requests.{RequestData, RequestsData, find, with_request, without}
use Rattle.req_book.proofs.ObjectLemmas.{Tells}
use Rattle.frame_queue.specs.Frames.{AreOnce}
use Rattle.device_history.specs.declared.ask.Step.{Step}
use Rattle.device_history.specs.declared.ask.Step.TheVariants.{OpenFh, CloseFh, Set, Grab, Alloc, Store, Buffer, Queue, Begin, Complete, Cancel, StreamOff, Reinit, Free, Subscribe, Unsubscribe, Take, ModifyRange}
use Rattle.device_history.specs.Steps.{Past}
use Rattle.device_history.specs.Requests.{made, ever_made}
use Rattle.device_history.specs.FrameSteps.{changed_if_named}

-- the number that a step makes is its own
made_own : (r n : ℕ) (step : Step) → nat_eq r n ≡ false → list_any (nat_eq r) (made n step) ≡ false
made_own r n Alloc off = or_from (nat_eq r n) false off refl
made_own r n _ off = refl

-- no request has a number from that of the next step on
pub not_made : (past : Past) (r : ℕ) → length past ≤ r → list_any (nat_eq r) (ever_made past) ≡ false
unfolding ever_made
not_made [] r le = refl
not_made (e ∷ older) r le =
    let off : nat_eq r (length older) ≡ false = grind (arith, nat_tests, le) in
    list_any-append (nat_eq r) (ever_made older) (made (length older) e.step)
    ∙ or_from (list_any (nat_eq r) (ever_made older)) (list_any (nat_eq r) (made (length older) e.step)) (not_made older r (omega (arith, le))) (made_own r (length older) e.step off)

-- the number of the next step is no request's yet
pub next_not_made : (past : Past) → list_any (nat_eq (length past)) (ever_made past) ≡ false
next_not_made past = not_made past (length past) (omega arith)

-- a number behind others, of which it is none
once_last : (ids : List ℕ) (id : ℕ) → AreOnce ids → list_any (nat_eq id) ids ≡ false → AreOnce (ids ++ id ∷ [])
once_last [] id once none = (refl, tt)
once_last (k ∷ ks) id once none =
    let parts = or_parts (nat_eq id k) (list_any (nat_eq id) ks) none in
    (list_any-append (nat_eq k) ks (id ∷ []) ∙ or_from (list_any (nat_eq k) ks) (nat_eq k id || false) once.0 (or_from (nat_eq k id) false (turned parts.0) refl), once_last ks id once.1 parts.1)
  where
    turned : nat_eq id k ≡ false → nat_eq k id ≡ false
    turned off = grind (arith, nat_tests, off)

once_append : (ids : List ℕ) → AreOnce ids → AreOnce (ids ++ [])
once_append [] once = tt
once_append (k ∷ ks) once = (list_any-append (nat_eq k) ks [] ∙ or_from (list_any (nat_eq k) ks) false once.0 refl, once_append ks once.1)

-- no request is made twice
pub made_once : (past : Past) → AreOnce (ever_made past)
unfolding ever_made
made_once [] = tt
made_once (e ∷ older) = by e.step (made_once older)
  where
    by : (step : Step) → AreOnce (ever_made older) → AreOnce (ever_made older ++ made (length older) step)
    by (OpenFh handler) once = once_append (ever_made older) once
    by (CloseFh fh) once = once_append (ever_made older) once
    by (Set fh pairs) once = once_append (ever_made older) once
    by (Grab c on) once = once_append (ever_made older) once
    by (ModifyRange c low high apart default_value) once = once_append (ever_made older) once
    by Alloc once = once_last (ever_made older) (length older) once (next_not_made older)
    by (Store r pairs) once = once_append (ever_made older) once
    by (Buffer r number) once = once_append (ever_made older) once
    by (Queue r) once = once_append (ever_made older) once
    by (Begin r) once = once_append (ever_made older) once
    by (Complete r) once = once_append (ever_made older) once
    by (Cancel r) once = once_append (ever_made older) once
    by StreamOff once = once_append (ever_made older) once
    by (Reinit r) once = once_append (ever_made older) once
    by (Free r) once = once_append (ever_made older) once
    by (Subscribe f c flags) once = once_append (ever_made older) once
    by (Unsubscribe f c) once = once_append (ever_made older) once
    by (Take f c) once = once_append (ever_made older) once

-- what a number gives has that number as its id
abbrev pub AreNamed : (ℕ → Option RequestData) → Type 0
AreNamed g = (j : ℕ) (q : RequestData) → g j ≡ Some q → q.id ≡ j

-- the request that a number finds is what it gives, where the number is listed
pub find_listed : (g : ℕ → Option RequestData) (ids : List ℕ) (r : ℕ) → AreNamed g → find (filter_map g ids) r ≡ cond (list_any (nat_eq r) ids) (g r) None
find_listed g [] r named = refl
find_listed g (j ∷ ids) r named = by (g j) refl (eqb_tells r j) (find_listed g ids r named)
  where
    both : (b : Bool) (o : Option RequestData) → o ≡ None → cond b o None ≡ None
    both true o none = none
    both false o none = refl

    by : (o : Option RequestData) → g j ≡ o → Tells r j → find (filter_map g ids) r ≡ cond (list_any (nat_eq r) ids) (g r) None
        → find (cons_option o (filter_map g ids)) r ≡ cond (nat_eq r j || list_any (nat_eq r) ids) (g r) None
    by None is (inl same) rest =
        let none : g r ≡ None = ap g same.1 ∙ is in
        rest ∙ both (list_any (nat_eq r) ids) (g r) none ∙ sym (both (nat_eq r j || list_any (nat_eq r) ids) (g r) none)
    by None is (inr other) rest = rw other.0 rest
    by (Some q) is (inl same) rest =
        let own : nat_eq r q.id ≡ true = ap (nat_eq r) (named j q is) ∙ same.0 in
        rw (own, same.0) (sym (ap g same.1 ∙ is))
    by (Some q) is (inr other) rest =
        let off : nat_eq r q.id ≡ false = ap (nat_eq r) (named j q is) ∙ other.0 in
        rw (off, other.0) rest

-- numbers that give the same are the same list
pub same_listed : (g h : ℕ → Option RequestData) (ids : List ℕ) → ((j : ℕ) → h j ≡ g j) → filter_map h ids ≡ filter_map g ids
same_listed g h [] same = refl
same_listed g h (j ∷ ids) same = rw (same j, same_listed g h ids same) refl

-- the same, where they needn't agree on a number that isn't listed
pub same_but : (g h : ℕ → Option RequestData) (r : ℕ) (ids : List ℕ) → ((j : ℕ) → nat_eq r j ≡ false → h j ≡ g j) → list_any (nat_eq r) ids ≡ false → filter_map h ids ≡ filter_map g ids
same_but g h r [] same none = refl
same_but g h r (j ∷ ids) same none =
    let parts = or_parts (nat_eq r j) (list_any (nat_eq r) ids) none in
    rw (same j parts.0, same_but g h r ids same parts.1) refl

-- the request with an id is changed
pub changed_listed : (g : ℕ → Option RequestData) (ids : List ℕ) (r : ℕ) (f : RequestData → RequestData) → AreNamed g → AreOnce ids
    → filter_map (λ j. changed_if_named r j f (g j)) ids ≡ with_request r f (filter_map g ids)
changed_listed g [] r f named once = refl
changed_listed g (j ∷ ids) r f named once = by (g j) refl (eqb_tells r j) (changed_listed g ids r f named once.1)
  where
    h : ℕ → Option RequestData
    h k = changed_if_named r k f (g k)

    by : (o : Option RequestData) → g j ≡ o → Tells r j → filter_map h ids ≡ with_request r f (filter_map g ids)
        → cons_option (changed_if_named r j f o) (filter_map h ids) ≡ with_request r f (cons_option o (filter_map g ids))
    by None is (inl same) rest = rw same.0 rest
    by None is (inr other) rest = rw other.0 rest
    by (Some q) is (inl same) rest =
        let own : nat_eq r q.id ≡ true = ap (nat_eq r) (named j q is) ∙ same.0 in
        let none : list_any (nat_eq r) ids ≡ false = ap (λ i. list_any (nat_eq i) ids) same.1 ∙ once.0 in
        rw (own, same.0) (ap (λ qs. f q ∷ qs) (same_but g h r ids (λ k off. ap (λ b. cond b (option_map f (g k)) (g k)) off) none))
    by (Some q) is (inr other) rest =
        let off : nat_eq r q.id ≡ false = ap (nat_eq r) (named j q is) ∙ other.0 in
        rw (off, other.0) (ap (λ qs. q ∷ qs) rest)

-- the request with an id is let go
pub freed_listed : (g : ℕ → Option RequestData) (ids : List ℕ) (r : ℕ) → AreNamed g → filter_map (λ j. cond (nat_eq r j) None (g j)) ids ≡ without r (filter_map g ids)
freed_listed g [] r named = refl
freed_listed g (j ∷ ids) r named = by (g j) refl (eqb_tells r j) (freed_listed g ids r named)
  where
    h : ℕ → Option RequestData
    h k = cond (nat_eq r k) None (g k)

    by : (o : Option RequestData) → g j ≡ o → Tells r j → filter_map h ids ≡ without r (filter_map g ids)
        → cons_option (cond (nat_eq r j) None o) (filter_map h ids) ≡ without r (cons_option o (filter_map g ids))
    by None is (inl same) rest = rw same.0 rest
    by None is (inr other) rest = rw other.0 rest
    by (Some q) is (inl same) rest =
        let own : nat_eq r q.id ≡ true = ap (nat_eq r) (named j q is) ∙ same.0 in
        rw (own, same.0) rest
    by (Some q) is (inr other) rest =
        let off : nat_eq r q.id ≡ false = ap (nat_eq r) (named j q is) ∙ other.0 in
        rw (off, other.0) (ap (λ qs. q ∷ qs) rest)

-- each request is changed
pub all_changed : (g : ℕ → Option RequestData) (f : RequestData → RequestData) (ids : List ℕ) → filter_map (λ j. option_map f (g j)) ids ≡ map f (filter_map g ids)
all_changed g f [] = refl
all_changed g f (j ∷ ids) = by (g j) (all_changed g f ids)
  where
    by : (o : Option RequestData) → filter_map (λ j. option_map f (g j)) ids ≡ map f (filter_map g ids) → cons_option (option_map f o) (filter_map (λ j. option_map f (g j)) ids) ≡ map f (cons_option o (filter_map g ids))
    by None rest = rest
    by (Some q) rest = ap (λ qs. f q ∷ qs) rest

-- the requests of a device with so many controls
abbrev pub whole : ℕ → List RequestData → RequestsData
whole n rs = record { controls = n; all = rs }
