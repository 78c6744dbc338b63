-- What a call does, put together of what its ask does and what is told.
use Rattle.std.proofs.Common.{arith, ◌≡◌, ◌≤◌, ◌-◌, ◌==◌, ◌∙◌, suc, take, drop, get_or, if◌then◌else◌, length, subst, ℕ, Bool, List, [], ◌∷◌, map, true, false, Option, None, Some, is_some, Ok, Err, refl, sym, ap, inl, inr}
use Rattle.std.proofs.lemmas.List.{take_all}
use Rattle.ctrl_calls.specs.Meanings.{Verdicts}
use Rattle.ctrl_types.specs.Numbers.{errno_number}
use Rattle.ctrl_types.specs.Refusals.{memory_refusal}
use Rattle.ctrl_types.specs.declared.errno.Fault.{Fault}
use Rattle.ctrl_types.specs.declared.ids.FhId.{FhId}
use Rattle.device_history.specs.declared.ask.Ask.{Ask}
use Rattle.device_history.specs.declared.ask.Reply.{Reply}
use Rattle.device_history.specs.AskChecks.{published}
use Rattle.device_history.specs.Refusals.{Answer}
use Rattle.device_state.proofs.RunLemmas.{run_plan}
use Rattle.following_ranges.specs.declared.asking.RangeAsk.{RangeAsk}
use Rattle.following_ranges.specs.Following.{HandlesAndFollows, is_change, range_call}
use Rattle.call_structs.specs.declared.entries.Form.{Form}
use Rattle.ctl_session.specs.Session.{Asked, SessionData, Stays, without_room}
use Rattle.ctl_session.specs.Lists.{Wrong}
use Rattle.ctl_session.specs.declared.list_calls.Access.{Access}
use Rattle.ctl_session.specs.Calls.{AskedInTurn, Calls, EndedInTurn, Meaning, Told, asks_one, asking_list, last_errno, list_by, list_told, plan_in, refused, sized, unsubscribe_ask}
use Rattle.ctl_session.specs.declared.calls.TheConstants.{CUT}

-- an ask that the device handled
pub handled : (verdicts : Verdicts) (old new : SessionData) (ask : Ask) (answer : Answer) (ranges : List RangeAsk) → new.followers ≡ old.followers
    → HandlesAndFollows verdicts old.followers old.device new.device old.owed new.owed 0 ask answer ranges → Asked verdicts old new ask answer
handled verdicts old new ask answer ranges followers does =
    inl (followers, run_plan verdicts (map (range_call 0) ranges) does.behind new.device does.one_by_one ∙ does.answered.plan, (ranges, does))

-- an ask for which there was no room
pub without : (verdicts : Verdicts) (old new : SessionData) (ask : Ask) (answer : Answer) → is_change ask ≡ true → new ≡ old → answer ≡ published ask (Err memory_refusal) → Asked verdicts old new ask answer
without verdicts old new ask answer change same is = inr (change, same, is)

-- what was asked in turn, and what is told
turns : (verdicts : Verdicts) (old new : SessionData) (meaning : Meaning) (answers : List Answer) (told : Told)
    → AskedInTurn verdicts old meaning.asks answers new → told ≡ meaning.told answers → Calls verdicts old meaning new told
turns verdicts old new meaning answers told turn is = inl (answers, turn, is)

-- a session that stays twice stays
stays_twice : (old between new : SessionData) → Stays old between → Stays between new → Stays old new
stays_twice old between new before behind = behind ∙ ap (λ (s : SessionData). record s { device = record s.device { work = new.device.work } }) before

-- a call of a session that stayed so far
calls_behind : (verdicts : Verdicts) (old between new : SessionData) (meaning : Meaning) (told : Told) → Stays old between → is_some meaning.short ≡ true
    → Calls verdicts between meaning new told → Calls verdicts old meaning new told
calls_behind verdicts old between new meaning told stays room (inl a) = inr (inr (between, stays, room, inl a))
calls_behind verdicts old between new meaning told stays room (inr (inl s)) = inr (inr (between, stays, room, inr s))
calls_behind verdicts old between new meaning told stays room (inr (inr (start, stood, needs, calls))) = inr (inr (start, stays_twice old between start stays stood, needs, calls))

-- what a list is told for which there was no room, whatever its payloads are
list_short : (forms : List Form) (access : Access) (bytes : List ℕ) (ask : Ask) (wrong : Option Wrong) → (list_by forms access bytes ask wrong).short ≡ Some (list_told forms bytes without_room)
list_short forms access bytes ask None = refl
list_short forms access bytes ask (Some wrong) = refl

-- a list of a session that stayed so far
pub list_behind : (verdicts : Verdicts) (old between new : SessionData) (forms : List Form) (access : Access) (bytes : List ℕ) (ask : Ask) (wrong : Option Wrong) (told : Told)
    → Stays old between → Calls verdicts between (list_by forms access bytes ask wrong) new told → Calls verdicts old (list_by forms access bytes ask wrong) new told
list_behind verdicts old between new forms access bytes ask wrong told stays calls =
    calls_behind verdicts old between new (list_by forms access bytes ask wrong) told stays (ap is_some (list_short forms access bytes ask wrong)) calls

-- a list for which there was no room
pub list_without : (verdicts : Verdicts) (session : SessionData) (forms : List Form) (access : Access) (bytes : List ℕ) (ask : Ask) (wrong : Option Wrong) (told : Told)
    → told ≡ list_told forms bytes without_room → Calls verdicts session (list_by forms access bytes ask wrong) session told
list_without verdicts session forms access bytes ask wrong told is = inr (inl (refl, list_short forms access bytes ask wrong ∙ sym (ap Some is)))

-- nothing is asked
pub refuses : (verdicts : Verdicts) (session : SessionData) (errno : ℕ) (bytes : List ℕ) (told : Told) → told ≡ (errno, bytes) → Calls verdicts session (refused errno bytes) session told
refuses verdicts session errno bytes told is = turns verdicts session session (refused errno bytes) [] told refl is

-- one ask with its answer
pub once : (verdicts : Verdicts) (old new : SessionData) (ask : Ask) (answer : Answer) → Asked verdicts old new ask answer → AskedInTurn verdicts old (ask ∷ []) (answer ∷ []) new
once verdicts old new ask (Ok reply) asked = (new, asked, refl)
once verdicts old new ask (Err fault) asked = asked

pub asks : (verdicts : Verdicts) (old new : SessionData) (ask : Ask) (answer : Answer) (tell : Answer → Told) (told : Told)
    → Asked verdicts old new ask answer → told ≡ tell answer → Calls verdicts old (asks_one ask tell) new told
asks verdicts old new ask answer tell told asked is = turns verdicts old new (asks_one ask tell) (answer ∷ []) told (once verdicts old new ask answer asked) is

pub asks_list : (verdicts : Verdicts) (old new : SessionData) (ask : Ask) (answer : Answer) (tell : Answer → Told) (told : Told)
    → Asked verdicts old new ask answer → told ≡ tell answer → Calls verdicts old (asking_list ask tell) new told
asks_list verdicts old new ask answer tell told asked is = turns verdicts old new (asking_list ask tell) (answer ∷ []) told (once verdicts old new ask answer asked) is

-- an ask leaves the plan as it is
pub plan_kept : (verdicts : Verdicts) (old new : SessionData) (ask : Ask) (answer : Answer) → Asked verdicts old new ask answer → new.device.plan ≡ old.device.plan
plan_kept verdicts old new ask answer (inl follows) = follows.1
plan_kept verdicts old new ask answer (inr (change, same, is)) = ap (λ (s : SessionData). s.device.plan) same

-- a struct of its size is read
pub sized_by : (verdicts : Verdicts) (old new : SessionData) (size : ℕ) (bytes : List ℕ) (meaning : Meaning) (told : Told)
    → (length bytes == size) ≡ true → Calls verdicts old meaning new told → Calls verdicts old (sized size bytes meaning) new told
sized_by verdicts old new size bytes meaning told same calls =
    subst (λ b. Calls verdicts old (if b then meaning else refused CUT bytes) new told) (sym same) calls

-- one of another size isn't
pub cut : (verdicts : Verdicts) (session : SessionData) (size : ℕ) (bytes : List ℕ) (meaning : Meaning) → (length bytes == size) ≡ false
    → Calls verdicts session (sized size bytes meaning) session (CUT, bytes)
cut verdicts session size bytes meaning other =
    subst (λ b. Calls verdicts session (if b then meaning else refused CUT bytes) session (CUT, bytes)) (sym other) (refuses verdicts session CUT bytes (CUT, bytes) refl)

-- one ask that was made so
pub asks_made : (verdicts : Verdicts) (old new : SessionData) (made ask : Ask) (answer : Answer) (tell : Answer → Told) (told : Told) → made ≡ ask
    → Asked verdicts old new made answer → told ≡ tell answer → Calls verdicts old (asks_one ask tell) new told
asks_made verdicts old new made ask answer tell told is asked tells =
    asks verdicts old new ask answer tell told (subst (λ a. Asked verdicts old new a answer) is asked) tells

-- a list that was made so
pub asks_list_made : (verdicts : Verdicts) (old new : SessionData) (made ask : Ask) (answer : Answer) (tell : Answer → Told) (told : Told) → made ≡ ask
    → Asked verdicts old new made answer → told ≡ tell answer → Calls verdicts old (asking_list ask tell) new told
asks_list_made verdicts old new made ask answer tell told is asked tells =
    asks_list verdicts old new ask answer tell told (subst (λ a. Asked verdicts old new a answer) is asked) tells

-- one of two calls, by a test
pub if_so : (verdicts : Verdicts) (old new : SessionData) (test : Bool) (taken other : Meaning) (told : Told) → test ≡ true → Calls verdicts old taken new told
    → Calls verdicts old (if test then taken else other) new told
if_so verdicts old new test taken other told so calls = subst (λ b. Calls verdicts old (if b then taken else other) new told) (sym so) calls

pub if_not : (verdicts : Verdicts) (old new : SessionData) (test : Bool) (taken other : Meaning) (told : Told) → test ≡ false → Calls verdicts old other new told
    → Calls verdicts old (if test then taken else other) new told
if_not verdicts old new test taken other told so calls = subst (λ b. Calls verdicts old (if b then taken else other) new told) (sym so) calls

-- Ends of subscriptions.

-- an accepted one is none that ends the row of them
last_errno_behind : (reply : Reply) (answers : List Answer) → last_errno (Ok reply ∷ answers) ≡ last_errno answers
last_errno_behind reply [] = refl
last_errno_behind reply (answer ∷ rest) = refl

-- one is ended, and those behind it
pub ends_more : (verdicts : Verdicts) (old between new : SessionData) (fh : FhId) (c : ℕ) (rest : List ℕ) (made : Ask) (reply : Reply) (errno : ℕ)
    → made ≡ unsubscribe_ask (plan_in old) fh c → Asked verdicts old between made (Ok reply) → EndedInTurn verdicts between fh rest new errno → EndedInTurn verdicts old fh (c ∷ rest) new errno
ends_more verdicts old between new fh c rest made reply errno is asked (answers, turn, told) =
    let kept = plan_kept verdicts old between made (Ok reply) asked in
    let here = subst (λ a. Asked verdicts old between a (Ok reply)) is asked in
    let behind = subst (λ plan. AskedInTurn verdicts between (map (unsubscribe_ask plan fh) rest) answers new) kept turn in
    (Ok reply ∷ answers, (between, here, behind), told ∙ sym (last_errno_behind reply answers))

-- one isn't ended, and those behind it stay
pub ends_no_more : (verdicts : Verdicts) (old new : SessionData) (fh : FhId) (c : ℕ) (rest : List ℕ) (made : Ask) (fault : Fault)
    → made ≡ unsubscribe_ask (plan_in old) fh c → Asked verdicts old new made (Err fault) → EndedInTurn verdicts old fh (c ∷ rest) new (errno_number fault.errno)
ends_no_more verdicts old new fh c rest made fault is asked = (Err fault ∷ [], subst (λ a. Asked verdicts old new a (Err fault)) is asked, refl)

-- the first of some controls, and those behind it
pub ends_behind : (verdicts : Verdicts) (old between new : SessionData) (fh : FhId) (controls : List ℕ) (made : Ask) (reply : Reply) (errno : ℕ) → 1 ≤ length controls
    → made ≡ unsubscribe_ask (plan_in old) fh (get_or controls 0 0) → Asked verdicts old between made (Ok reply)
    → EndedInTurn verdicts between fh (take (length controls - 1) (drop 1 controls)) new errno → EndedInTurn verdicts old fh controls new errno
ends_behind verdicts old between new fh [] made reply errno long is asked ended = absurd (omega (arith, long))
ends_behind verdicts old between new fh (c ∷ rest) made reply errno long is asked ended =
    ends_more verdicts old between new fh c rest made reply errno is asked (subst (λ controls. EndedInTurn verdicts between fh controls new errno) (take_all (suc (length rest) - 1) rest (omega arith)) ended)

pub ends_at : (verdicts : Verdicts) (old new : SessionData) (fh : FhId) (controls : List ℕ) (made : Ask) (fault : Fault) → 1 ≤ length controls
    → made ≡ unsubscribe_ask (plan_in old) fh (get_or controls 0 0) → Asked verdicts old new made (Err fault) → EndedInTurn verdicts old fh controls new (errno_number fault.errno)
ends_at verdicts old new fh [] made fault long is asked = absurd (omega (arith, long))
ends_at verdicts old new fh (c ∷ rest) made fault long is asked = ends_no_more verdicts old new fh c rest made fault is asked
