-- Whether a set and a store may follow is told by the list of their pairs.
use Rattle.std.proofs.Common.{◌≡◌, ℕ, ◌<◌, ◌≤◌, Bool, true, false, cond, nat_eq, if◌then◌else◌, List, [], ◌∷◌, ◌++◌, length, Option, None, Some, refl, ap, sym, ◌∙◌, subst, arith}
use Rattle.std.proofs.lemmas.Bool.Decides.{nat_tests}
use Rattle.std.specs.Map.{lookup}
use Rattle.std.specs.List.{All}
use Rattle.std.proofs.lemmas.List.{length-map}
use Rattle.std.specs.Option.{is_none}
use Rattle.ctrl_types.specs.declared.check.Check.{Check}
use Rattle.ctrl_types.specs.declared.check.Check.TheVariants.{TooManyEntries, ClassNotShown, ListHandleNotOpen, ListRequestNotIdle, ListHistoryFull, NotIdle}
use Rattle.ctrl_types.specs.declared.errno.Fault.{Fault}
use Rattle.ctrl_types.specs.declared.ids.ExtControl.{ExtControl}
use Rattle.ctrl_types.specs.declared.ids.FhId.{FhId}
use Rattle.ctrl_types.specs.declared.ids.Pair.{Pair}
use Rattle.ctrl_types.specs.declared.ids.RequestId.{RequestId}
use Rattle.ctrl_types.specs.declared.which.Which.TheVariants.{Request}
use Rattle.ctrl_calls.specs.Meanings.{Verdicts}
use Rattle.ctrl_handlers.specs.Plan.{PlanData, IsPlan}
use Rattle.req_book.specs.Refusals.{store_check}
use Rattle.req_book.specs.Requests.{RequestData, is_idle}
use Rattle.ctrl_lists.specs.declared.limits.TheConstants.{MAX_ENTRIES}
use Rattle.ctrl_types.specs.declared.refusal.Refusal.{Refusal}
use Rattle.ctrl_lists.specs.Answers.{answered, entries_judged}
use Rattle.ctrl_types.specs.Refusals.{fault_at_count}
use Rattle.ctrl_lists.specs.Checks.{at_first, first_refusal, is_long, is_of_no_class, naming_check, refused_if, write_checks}
use Rattle.ctrl_lists.specs.Touched.{TouchedData}
use Rattle.ctrl_lists.specs.View.{ViewData, pairs_of}
use Rattle.device_history.specs.declared.ask.Ask.TheVariants as asks
use Rattle.device_history.specs.declared.ask.Step.TheVariants as steps
use Rattle.device_history.specs.Steps.{Past}
use Rattle.device_history.specs.Refusals.{is_full, fault_of}
use Rattle.device_history.specs.Handles.{handler_of, opened}
use Rattle.device_history.specs.Snapshots.{request}
use Rattle.device_history.specs.Requests.{asked}
use Rattle.device_history.specs.Lists.{controls_of, handler_or, opening_checks, request_check, set_checks, set_list_answer, write_view}
use Rattle.device_history.specs.Asking.{entries_of, entry_of, fh_or_none, first_storer, shows_pairs, storer}
use Rattle.device_history.specs.Legal.{MayFollow}
use Rattle.device_history.proofs.AskingLemmas.{may_decided}
use Rattle.device_history.proofs.FitLemmas.{meant_passes}
use Rattle.device_history.proofs.NamingLemmas.{entries_back}
use Rattle.device_history.proofs.ListLemmas.{first_behind, none_of_both, passes}
use Rattle.device_history.proofs.PastLemmas.{AreAbove, AreRising, opened_rising}
use Rattle.history_audit.proofs.ShowLemmas.{pairs_known}
use Rattle.history_audit.specs.Judged.{IsSet, IsUnset, view_of}

-- what isn't refused, nothing refuses
unrefused : (fault : Refusal → Fault) (first : Option Refusal) (entries : List ExtControl) → fault_of (controls_of (answered fault first entries)) ≡ None → first ≡ None
unrefused fault None entries h = refl
unrefused fault (Some r) entries h = cc

room_left : (b : Bool) → first_refusal (refused_if b ListHistoryFull ∷ []) ≡ None → b ≡ false
room_left true h = cc
room_left false h = refl

-- what a list that isn't refused finds
pub listed : (verdicts : Verdicts) (plan : PlanData) (past : Past) (fh : FhId) (which : ℕ) (id : Option RequestId) (list : List ExtControl) → fault_of (set_list_answer verdicts plan past fh which id list) ≡ None
    → (first_refusal (opening_checks verdicts plan past fh which id true) ≡ None)
    × (first_refusal (write_checks verdicts plan (write_view verdicts plan past fh which id) true list) ≡ None)
    × (is_full past ≡ false)
listed verdicts plan past fh which id list h =
    let all : first_refusal (set_checks verdicts plan past fh which id list) ≡ None =
    unrefused (fault_at_count (length list)) (first_refusal (set_checks verdicts plan past fh which id list)) (entries_judged verdicts plan (write_view verdicts plan past fh which id) list) h in
    let parts = none_of_both (opening_checks verdicts plan past fh which id true) (own ++ limit) all in
    let passed = none_of_both own limit parts.1 in
    (parts.0, passed.0, room_left (is_full past) passed.1)
  where
    own : List (Option Refusal)
    own = write_checks verdicts plan (write_view verdicts plan past fh which id) true list

    limit : List (Option Refusal)
    limit = refused_if (is_full past) ListHistoryFull ∷ []

-- a list that passes the first checks, can be set, and finds room isn't refused
unlimited : (verdicts : Verdicts) (plan : PlanData) (past : Past) (fh : FhId) (which : ℕ) (id : Option RequestId) (list : List ExtControl) → first_refusal (opening_checks verdicts plan past fh which id true) ≡ None
    → first_refusal (write_checks verdicts plan (write_view verdicts plan past fh which id) true list) ≡ None → is_full past ≡ false → fault_of (set_list_answer verdicts plan past fh which id list) ≡ None
unlimited verdicts plan past fh which id list opens passed room =
    let all : first_refusal (set_checks verdicts plan past fh which id list) ≡ None =
    first_behind (opening_checks verdicts plan past fh which id true) (own ++ limit) opens ∙ first_behind own limit passed ∙ ap (λ (b : Bool). first_refusal (refused_if b ListHistoryFull ∷ [])) room in
    ap (λ (first : Option Refusal). fault_of (controls_of (answered (fault_at_count (length list)) first (entries_judged verdicts plan (write_view verdicts plan past fh which id) list)))) all
  where
    own : List (Option Refusal)
    own = write_checks verdicts plan (write_view verdicts plan past fh which id) true list

    limit : List (Option Refusal)
    limit = refused_if (is_full past) ListHistoryFull ∷ []

same_set : (fh : FhId) (a b : List Pair) → Some (steps.Set fh a) ≡ Some (steps.Set fh b) → a ≡ b
same_set fh a b h = cc

same_store : (r : RequestId) (a b : List Pair) → Some (steps.Store r a) ≡ Some (steps.Store r b) → a ≡ b
same_store r a b h = cc

-- the file handle is open
is_open : (o : Option ℕ) (checks : List (Option Refusal)) → first_refusal (refused_if (is_none o) ListHandleNotOpen ∷ checks) ≡ None → o ≡ None → ⊥
is_open None checks h none = cc
is_open (Some n) checks h none = cc

opens : (verdicts : Verdicts) (plan : PlanData) (past : Past) (fh : FhId) (handler : ℕ) → handler_of past fh ≡ Some handler → first_refusal (opening_checks verdicts plan past fh 0 None true) ≡ None
opens verdicts plan past fh handler is = rw is refl

-- A set whose list can be set may follow.
pub set_follows : (verdicts : Verdicts) (plan : PlanData) (past : Past) (fh : FhId) (handler : ℕ) (pairs : List Pair) (touch : TouchedData) → handler_of past fh ≡ Some handler → is_full past ≡ false
    → IsSet verdicts plan (write_view verdicts plan past fh 0 None) pairs touch → MayFollow verdicts plan past (steps.Set fh pairs)
set_follows verdicts plan past fh handler pairs touch is room sets = (
  asks.SetCtrls fh 0 None (entries_of plan pairs),
  unlimited verdicts plan past fh 0 None (entries_of plan pairs) (opens verdicts plan past fh handler is) sets.accepted room,
  ap (λ (ps : List Pair). Some (steps.Set fh ps)) (sym sets.touches.own_pairs ∙ sets.own_pairs),
)

-- What a set that may follow finds.
pub set_needs : (verdicts : Verdicts) (plan : PlanData) (past : Past) (fh : FhId) (pairs : List Pair) → MayFollow verdicts plan past (steps.Set fh pairs)
    → (handler_of past fh ≡ None → ⊥) × (is_full past ≡ false) × (IsUnset verdicts plan (write_view verdicts plan past fh 0 None) pairs → ⊥)
set_needs verdicts plan past fh pairs may =
    let decided = may_decided verdicts plan past (steps.Set fh pairs) may in
    let parts = listed verdicts plan past fh 0 None (entries_of plan pairs) decided.0 in
    (λ none. is_open (handler_of past fh) _ parts.0 none, parts.2, λ unset. unset parts.1 (same_set fh _ pairs decided.1))

-- where each key lies above n, a key that is found isn't n
above_found : (n k handler : ℕ) (os : List (ℕ × ℕ)) → AreAbove n os → lookup (nat_eq k) os ≡ Some handler → nat_eq k n ≡ false
unfolding AreAbove
above_found n k handler [] above h = cc
above_found n k handler (o ∷ os) above h = by (nat_eq k o.0) refl h (λ rest. above_found n k handler os above.1 rest)
  where
    by : (b : Bool) → nat_eq k o.0 ≡ b → cond b (Some o.1) (lookup (nat_eq k) os) ≡ Some handler → (lookup (nat_eq k) os ≡ Some handler → nat_eq k n ≡ false) → nat_eq k n ≡ false
    by true e found rest = apart k o.0 n e above.0
      where
        apart : (k o n : ℕ) → nat_eq k o ≡ true → n < o → nat_eq k n ≡ false
        apart k o n e lt = grind (arith, nat_tests, e)
    by false e found rest = rest found

-- the first file handle whose handler shows pairs is open, with this handler
first_open : (plan : PlanData) (pairs : List Pair) (h : ℕ × ℕ) (os : List (ℕ × ℕ)) → AreRising os → first_storer plan pairs os ≡ Some h → lookup (nat_eq h.0) os ≡ Some h.1
unfolding AreRising
first_open plan pairs h [] rising is = cc
first_open plan pairs h (o ∷ os) rising is = by (shows_pairs plan o.1 pairs) is (λ rest. first_open plan pairs h os rising.1 rest)
  where
    own : (n : ℕ) → nat_eq n n ≡ true
    own n = grind (arith, nat_tests)

    same : (a b : ℕ × ℕ) → Some a ≡ Some b → a ≡ b
    same a b h = cc

    by : (s : Bool) → cond s (Some o) (first_storer plan pairs os) ≡ Some h → (first_storer plan pairs os ≡ Some h → lookup (nat_eq h.0) os ≡ Some h.1) → lookup (nat_eq h.0) (o ∷ os) ≡ Some h.1
    by true is rest = subst (λ (p : ℕ × ℕ). lookup (nat_eq p.0) (o ∷ os) ≡ Some p.1) (same o h is) (rw (own o.0) refl)
    by false is rest = let later = rest is in rw (above_found o.0 h.0 h.1 os rising.0 later) later

-- a request that takes settings takes a list that writes
takes_list : (o : Option RequestData) → store_check o ≡ None → request_check true o ≡ None
takes_list None h = cc
takes_list (Some r) h = by (is_idle r.state) h
  where
    by : (b : Bool) → (if b then None else Some NotIdle) ≡ None → (if b then None else Some ListRequestNotIdle) ≡ None
    by true h = refl
    by false h = cc

takes_settings : (o : Option RequestData) → request_check true o ≡ None → store_check o ≡ None
takes_settings None h = cc
takes_settings (Some r) h = by (is_idle r.state) h
  where
    by : (b : Bool) → (if b then None else Some ListRequestNotIdle) ≡ None → (if b then None else Some NotIdle) ≡ None
    by true h = refl
    by false h = cc

-- A store whose list can be set, through the first file handle whose handler shows its pairs, may follow.
pub store_follows : (verdicts : Verdicts) (plan : PlanData) (past : Past) (r : RequestId) (h : ℕ × ℕ) (pairs : List Pair) (touch : TouchedData) → first_storer plan pairs (opened past) ≡ Some h → is_full past ≡ false
    → store_check (request verdicts plan past r.0) ≡ None → IsSet verdicts plan (view_of verdicts plan past h.1 Request (asked plan past r.0)) pairs touch → MayFollow verdicts plan past (steps.Store r pairs)
store_follows verdicts plan past r h pairs touch first room idle sets =
    let fh : FhId = record { 0 = h.0 } in
    let is : handler_of past fh ≡ Some h.1 = first_open plan pairs h (opened past) (opened_rising past) first in
    let view : write_view verdicts plan past fh 0x0f010000 (Some r) ≡ view_of verdicts plan past h.1 Request (asked plan past r.0) = rw is refl in
    let opening : first_refusal (opening_checks verdicts plan past fh 0x0f010000 (Some r) true) ≡ None = rw (is, takes_list (request verdicts plan past r.0) idle) refl in
    let accepted : first_refusal (write_checks verdicts plan (write_view verdicts plan past fh 0x0f010000 (Some r)) true (entries_of plan pairs)) ≡ None =
    subst (λ (v : ViewData). first_refusal (write_checks verdicts plan v true (entries_of plan pairs)) ≡ None) (sym view) sets.accepted in
    let own : pairs_of plan (write_view verdicts plan past fh 0x0f010000 (Some r)).handler Request (entries_of plan pairs) ≡ pairs =
    subst (λ (v : ViewData). pairs_of plan v.handler Request (entries_of plan pairs) ≡ pairs) (sym view) (sym sets.touches.own_pairs ∙ sets.own_pairs) in (
      asks.SetCtrls fh 0x0f010000 (Some r) (entries_of plan pairs),
      unlimited verdicts plan past fh 0x0f010000 (Some r) (entries_of plan pairs) opening accepted room,
      ap (λ (ps : List Pair). Some (steps.Store r ps)) own,
    )

-- what doesn't refuse a list doesn't hold
not_refused_if : (b : Bool) (check : Check) → refused_if b check ≡ None → b ≡ false
not_refused_if true check h = cc
not_refused_if false check h = refl

-- a list that can be set isn't too long, and each entry names a control
accepted_names : (verdicts : Verdicts) (plan : PlanData) (view : ViewData) (list : List ExtControl) → first_refusal (write_checks verdicts plan view true list) ≡ None → (is_long list ≡ false) × (at_first (naming_check plan view) list ≡ None)
accepted_names verdicts plan view list all =
    let first = passes (refused_if (is_long list) TooManyEntries) _ all in
    let second = passes (refused_if (is_of_no_class plan view list) ClassNotShown) _ first.1 in
    let third = passes (at_first (naming_check plan view) list) _ second.1 in
    (not_refused_if (is_long list) TooManyEntries first.0, third.0)

-- A list that is too long, or of which a control isn't there, can't be set, or doesn't name its pairs' controls.
pub unlisted : (verdicts : Verdicts) (plan : PlanData) (view : ViewData) (pairs : List Pair) → IsPlan plan → ((length pairs ≤ MAX_ENTRIES) × All (λ p. p.control < length plan.controls) pairs → ⊥) → IsUnset verdicts plan view pairs
unlisted verdicts plan view pairs is none = λ accepted own.
    let names = accepted_names verdicts plan view (entries_of plan pairs) accepted in
    let few : length (entries_of plan pairs) ≤ MAX_ENTRIES = short (entries_of plan pairs) names.0 in
    none (
      omega (arith, few, length-map pairs (entry_of plan)),
      subst (λ (ps : List Pair). All (λ p. p.control < length plan.controls) ps) own (pairs_known plan view.handler view.which (entries_of plan pairs) is),
    )
  where
    short : (list : List ExtControl) → is_long list ≡ false → length list ≤ MAX_ENTRIES
    short list h = grind (arith, nat_tests, h)

-- where the handler of an open file handle shows pairs, a first one is found
some_storer : (plan : PlanData) (pairs : List Pair) (k handler : ℕ) (os : List (ℕ × ℕ)) → lookup (nat_eq k) os ≡ Some handler → shows_pairs plan handler pairs ≡ true → first_storer plan pairs os ≡ None → ⊥
some_storer plan pairs k handler [] found shows none = cc
some_storer plan pairs k handler (o ∷ os) found shows none = by (shows_pairs plan o.1 pairs) (nat_eq k o.0) refl found none (λ rest. some_storer plan pairs k handler os rest shows)
  where
    by : (s b : Bool) → shows_pairs plan o.1 pairs ≡ s → cond b (Some o.1) (lookup (nat_eq k) os) ≡ Some handler → cond s (Some o) (first_storer plan pairs os) ≡ None
        → (lookup (nat_eq k) os ≡ Some handler → first_storer plan pairs os ≡ None → ⊥) → ⊥
    by true b e at is rest = cc
    by false true e at is rest =
        let same : o.1 ≡ handler = cc in
        let bad : shows_pairs plan o.1 pairs ≡ true = ap (λ (n : ℕ). shows_pairs plan n pairs) same ∙ shows in cc
    by false false e at is rest = rest at is

-- What a store that may follow finds.
pub store_needs : (verdicts : Verdicts) (plan : PlanData) (past : Past) (r : RequestId) (pairs : List Pair) → MayFollow verdicts plan past (steps.Store r pairs)
    → (is_full past ≡ false) × (store_check (request verdicts plan past r.0) ≡ None) × (first_storer plan pairs (opened past) ≡ None → ⊥)
    × ((h : ℕ × ℕ) → first_storer plan pairs (opened past) ≡ Some h → IsUnset verdicts plan (view_of verdicts plan past h.1 Request (asked plan past r.0)) pairs → ⊥)
store_needs verdicts plan past r pairs may =
    let decided = may_decided verdicts plan past (steps.Store r pairs) may in
    let parts = listed verdicts plan past fh 0x0f010000 (Some r) entries decided.0 in
    let own : pairs_of plan (handler_or (handler_of past fh)) Request entries ≡ pairs = same_store r _ pairs decided.1 in
    (parts.2, takes_settings (request verdicts plan past r.0) (meant_passes verdicts plan past fh 0x0f010000 (Some r) true parts.0), none (handler_of past fh) refl parts.0 parts.1 own, found parts.1 own)
  where
    fh : FhId
    fh = storer plan past pairs

    entries : List ExtControl
    entries = entries_of plan pairs

    view : ℕ → ViewData
    view handler = view_of verdicts plan past handler Request (asked plan past r.0)

    none : (o : Option ℕ) → handler_of past fh ≡ o → first_refusal (opening_checks verdicts plan past fh 0x0f010000 (Some r) true) ≡ None
        → first_refusal (write_checks verdicts plan (view (handler_or (handler_of past fh))) true entries) ≡ None
        → pairs_of plan (handler_or (handler_of past fh)) Request entries ≡ pairs → first_storer plan pairs (opened past) ≡ None → ⊥
    none None e opening accepted own is = is_open (handler_of past fh) _ opening e
    none (Some handler) e opening accepted own is =
        let names = accepted_names verdicts plan (view (handler_or (handler_of past fh))) entries accepted in
        let shows : shows_pairs plan (handler_or (handler_of past fh)) (pairs_of plan (handler_or (handler_of past fh)) Request entries) ≡ true =
        (entries_back plan (view (handler_or (handler_of past fh))) 0 entries names.1).1 in
        let known : shows_pairs plan handler pairs ≡ true =
        ap (λ (o : Option ℕ). shows_pairs plan (handler_or o) pairs) (sym e) ∙ ap (shows_pairs plan (handler_or (handler_of past fh))) (sym own) ∙ shows in
        some_storer plan pairs fh.0 handler (opened past) e known is

    found : first_refusal (write_checks verdicts plan (view (handler_or (handler_of past fh))) true entries) ≡ None
        → pairs_of plan (handler_or (handler_of past fh)) Request entries ≡ pairs
        → (h : ℕ × ℕ) → first_storer plan pairs (opened past) ≡ Some h → IsUnset verdicts plan (view h.1) pairs → ⊥
    found accepted own h is unset =
        let at : handler_of past fh ≡ Some h.1 = ap (λ (o : Option (ℕ × ℕ)). handler_of past (fh_or_none o)) is ∙ first_open plan pairs h (opened past) (opened_rising past) is in
        unset
        (subst (λ (o : Option ℕ). first_refusal (write_checks verdicts plan (view (handler_or o)) true entries) ≡ None) at accepted)
        (subst (λ (o : Option ℕ). pairs_of plan (handler_or o) Request entries ≡ pairs) at own)
