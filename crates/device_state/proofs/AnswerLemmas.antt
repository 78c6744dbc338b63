-- What a list is answered once its first checks pass, as `ctrl_lists` finds it.
use Rattle.std.proofs.Common.{◌≡◌, ℕ, true, false, List, [], ◌∷◌, ◌++◌, length, None, Some, Option, Result, Ok, Err, OnOk, MatchOption, IsTrue, ◌⊎◌, inl, inr, refl, ap, sym, subst, ◌∙◌}
use Rattle.std.specs.Option.{option_map}
use Rattle.history.specs.Past.{past}
use Rattle.ctrl_types.specs.declared.check.Check.{Check}
use Rattle.ctrl_types.specs.declared.check.Check.TheVariants.{ListHistoryFull}
use Rattle.ctrl_types.specs.declared.ids.ExtControl.{ExtControl}
use Rattle.ctrl_types.specs.declared.ids.FhId.{FhId}
use Rattle.ctrl_types.specs.declared.ids.RequestId.{RequestId}
use Rattle.ctrl_calls.specs.Meanings.{Verdicts}
use Rattle.ctrl_handlers.specs.Plan.{PlanData}
use Rattle.ctrl_types.specs.declared.refusal.Refusal.{Refusal}
use Rattle.ctrl_lists.specs.View.{ViewData}
use Rattle.ctrl_lists.specs.Checks.{first_refusal, read_checks, refused_if, write_checks}
use Rattle.ctrl_types.specs.Refusals.{memory_refusal, fault_at_count, fault_at_entry, whole}
use Rattle.ctrl_lists.specs.Answers.{answered, entries_judged, entries_read, may_lack}
use Rattle.device_history.specs.declared.ask.Ask.{Ask}
use Rattle.device_history.specs.declared.ask.Ask.TheVariants as asks
use Rattle.device_history.specs.declared.ask.Reply.{Reply}
use Rattle.device_history.specs.declared.ask.Reply.TheVariants.{Controls}
use Rattle.device_history.specs.Steps.{Past}
use Rattle.device_history.specs.Refusals.{is_full, refused_at}
use Rattle.device_history.specs.Lists.{controls_of, get_checks, opening_checks, read_view, set_checks, set_list_answer, try_checks, write_view}
use Rattle.device_history.specs.Answers.{MayAnswer, is_list}
use Rattle.device_history.specs.AskChecks.{check_of, published, refusal_of}
use Rattle.device_state.specs.Device.{DeviceData, MayRefuse}
use Rattle.device_history.proofs.ListLemmas.{first_before, first_behind}

-- what refuses a get, a set and a try
get_by : (verdicts : Verdicts) (plan : PlanData) (older : Past) (words : List ℕ) (fh : FhId) (which : ℕ) (request : Option RequestId) (list : List ExtControl) (refusal : Refusal)
    → first_refusal (get_checks verdicts plan older fh which request list) ≡ Some refusal → MayAnswer verdicts plan older words (asks.GetCtrls fh which request list) (Err (fault_at_count (length list) refusal))
get_by verdicts plan older words fh which request list refusal is =
    inl (sym (ap (λ (first : Option Refusal). controls_of (answered (fault_at_count (length list)) first (entries_read plan (read_view verdicts plan older fh which request) list))) is))

set_by : (verdicts : Verdicts) (plan : PlanData) (older : Past) (words : List ℕ) (fh : FhId) (which : ℕ) (request : Option RequestId) (list : List ExtControl) (refusal : Refusal)
    → first_refusal (set_checks verdicts plan older fh which request list) ≡ Some refusal → MayAnswer verdicts plan older words (asks.SetCtrls fh which request list) (Err (fault_at_count (length list) refusal))
set_by verdicts plan older words fh which request list refusal is =
    inl (sym (ap (λ (first : Option Refusal). controls_of (answered (fault_at_count (length list)) first (entries_judged verdicts plan (write_view verdicts plan older fh which request) list))) is))

try_by : (verdicts : Verdicts) (plan : PlanData) (older : Past) (words : List ℕ) (fh : FhId) (which : ℕ) (request : Option RequestId) (list : List ExtControl) (refusal : Refusal)
    → first_refusal (try_checks verdicts plan older fh which request list) ≡ Some refusal → MayAnswer verdicts plan older words (asks.TryCtrls fh which request list) (Err (fault_at_entry (length list) refusal))
try_by verdicts plan older words fh which request list refusal is =
    inl (sym (ap (λ (first : Option Refusal). controls_of (answered (fault_at_entry (length list)) first (entries_judged verdicts plan (write_view verdicts plan older fh which request) list))) is))

-- the first refusal of a list, where the checks that every list begins with refuse it
pub get_opening : (verdicts : Verdicts) (plan : PlanData) (older : Past) (fh : FhId) (which : ℕ) (request : Option RequestId) (list : List ExtControl) (refusal : Refusal)
    → first_refusal (opening_checks verdicts plan older fh which request false) ≡ Some refusal → first_refusal (get_checks verdicts plan older fh which request list) ≡ Some refusal
get_opening verdicts plan older fh which request list refusal is =
    first_before (opening_checks verdicts plan older fh which request false) (read_checks plan (read_view verdicts plan older fh which request) list) refusal is

pub set_opening : (verdicts : Verdicts) (plan : PlanData) (older : Past) (fh : FhId) (which : ℕ) (request : Option RequestId) (list : List ExtControl) (refusal : Refusal)
    → first_refusal (opening_checks verdicts plan older fh which request true) ≡ Some refusal → first_refusal (set_checks verdicts plan older fh which request list) ≡ Some refusal
set_opening verdicts plan older fh which request list refusal is =
    first_before (opening_checks verdicts plan older fh which request true) (write_checks verdicts plan (write_view verdicts plan older fh which request) true list ++ refused_if (is_full older) ListHistoryFull ∷ []) refusal is

pub try_opening : (verdicts : Verdicts) (plan : PlanData) (older : Past) (fh : FhId) (which : ℕ) (request : Option RequestId) (list : List ExtControl) (refusal : Refusal)
    → first_refusal (opening_checks verdicts plan older fh which request true) ≡ Some refusal → first_refusal (try_checks verdicts plan older fh which request list) ≡ Some refusal
try_opening verdicts plan older fh which request list refusal is =
    first_before (opening_checks verdicts plan older fh which request true) (write_checks verdicts plan (write_view verdicts plan older fh which request) false list) refusal is

-- and where one of its own refuses it, behind these
get_behind : (verdicts : Verdicts) (plan : PlanData) (older : Past) (fh : FhId) (which : ℕ) (request : Option RequestId) (list : List ExtControl) (view : ViewData) (refusal : Refusal)
    → first_refusal (opening_checks verdicts plan older fh which request false) ≡ None → view ≡ read_view verdicts plan older fh which request → first_refusal (read_checks plan view list) ≡ Some refusal
    → first_refusal (get_checks verdicts plan older fh which request list) ≡ Some refusal
get_behind verdicts plan older fh which request list view refusal opens read is =
    first_behind (opening_checks verdicts plan older fh which request false) (read_checks plan (read_view verdicts plan older fh which request) list) opens
    ∙ subst (λ (v : ViewData). first_refusal (read_checks plan v list) ≡ Some refusal) read is

try_behind : (verdicts : Verdicts) (plan : PlanData) (older : Past) (fh : FhId) (which : ℕ) (request : Option RequestId) (list : List ExtControl) (view : ViewData) (refusal : Refusal)
    → first_refusal (opening_checks verdicts plan older fh which request true) ≡ None → view ≡ write_view verdicts plan older fh which request → first_refusal (write_checks verdicts plan view false list) ≡ Some refusal
    → first_refusal (try_checks verdicts plan older fh which request list) ≡ Some refusal
try_behind verdicts plan older fh which request list view refusal opens read is =
    first_behind (opening_checks verdicts plan older fh which request true) (write_checks verdicts plan (write_view verdicts plan older fh which request) false list) opens
    ∙ subst (λ (v : ViewData). first_refusal (write_checks verdicts plan v false list) ≡ Some refusal) read is

set_behind : (verdicts : Verdicts) (plan : PlanData) (older : Past) (fh : FhId) (which : ℕ) (request : Option RequestId) (list : List ExtControl) (view : ViewData) (refusal : Refusal)
    → first_refusal (opening_checks verdicts plan older fh which request true) ≡ None → view ≡ write_view verdicts plan older fh which request → first_refusal (write_checks verdicts plan view true list) ≡ Some refusal
    → first_refusal (set_checks verdicts plan older fh which request list) ≡ Some refusal
set_behind verdicts plan older fh which request list view refusal opens read is =
    first_behind (opening_checks verdicts plan older fh which request true) (own ++ limit) opens ∙ first_before own limit refusal (subst (λ (v : ViewData). first_refusal (write_checks verdicts plan v true list) ≡ Some refusal) read is)
  where
    own : List (Option Refusal)
    own = write_checks verdicts plan (write_view verdicts plan older fh which request) true list

    limit : List (Option Refusal)
    limit = refused_if (is_full older) ListHistoryFull ∷ []

-- why such a list is refused: the first refusal, or want of memory
pub get_why : (verdicts : Verdicts) (plan : PlanData) (older : Past) (fh : FhId) (which : ℕ) (request : Option RequestId) (list : List ExtControl) (view : ViewData) (refusal : Refusal)
    → first_refusal (opening_checks verdicts plan older fh which request false) ≡ None → view ≡ read_view verdicts plan older fh which request
    → (first_refusal (read_checks plan view list) ≡ Some refusal) ⊎ (IsTrue (may_lack list) × (refusal ≡ memory_refusal))
    → (first_refusal (get_checks verdicts plan older fh which request list) ≡ Some refusal) ⊎ (refusal ≡ memory_refusal)
get_why verdicts plan older fh which request list view refusal opens read (inl is) = inl (get_behind verdicts plan older fh which request list view refusal opens read is)
get_why verdicts plan older fh which request list view refusal opens read (inr lacks) = inr lacks.1

pub try_why : (verdicts : Verdicts) (plan : PlanData) (older : Past) (fh : FhId) (which : ℕ) (request : Option RequestId) (list : List ExtControl) (view : ViewData) (refusal : Refusal)
    → first_refusal (opening_checks verdicts plan older fh which request true) ≡ None → view ≡ write_view verdicts plan older fh which request
    → (first_refusal (write_checks verdicts plan view false list) ≡ Some refusal) ⊎ (IsTrue (may_lack list) × (refusal ≡ memory_refusal))
    → (first_refusal (try_checks verdicts plan older fh which request list) ≡ Some refusal) ⊎ (refusal ≡ memory_refusal)
try_why verdicts plan older fh which request list view refusal opens read (inl is) = inl (try_behind verdicts plan older fh which request list view refusal opens read is)
try_why verdicts plan older fh which request list view refusal opens read (inr lacks) = inr lacks.1

pub set_why : (verdicts : Verdicts) (plan : PlanData) (older : Past) (fh : FhId) (which : ℕ) (request : Option RequestId) (list : List ExtControl) (view : ViewData) (refusal : Refusal)
    → first_refusal (opening_checks verdicts plan older fh which request true) ≡ None → view ≡ write_view verdicts plan older fh which request
    → (first_refusal (write_checks verdicts plan view true list) ≡ Some refusal) ⊎ (IsTrue (may_lack list) × (refusal ≡ memory_refusal))
    → (first_refusal (set_checks verdicts plan older fh which request list) ≡ Some refusal) ⊎ (refusal ≡ memory_refusal)
set_why verdicts plan older fh which request list view refusal opens read (inl is) = inl (set_behind verdicts plan older fh which request list view refusal opens read is)
set_why verdicts plan older fh which request list view refusal opens read (inr lacks) = inr lacks.1

-- a list whose first checks refuse it
pub get_unread : (verdicts : Verdicts) (plan : PlanData) (older : Past) (words : List ℕ) (fh : FhId) (which : ℕ) (request : Option RequestId) (list : List ExtControl) (check : Check)
    → first_refusal (opening_checks verdicts plan older fh which request false) ≡ Some (record { check = check; entry = None }) → MayAnswer verdicts plan older words (asks.GetCtrls fh which request list) (refused_at check (length list))
get_unread verdicts plan older words fh which request list check is =
    get_by verdicts plan older words fh which request list _ (get_opening verdicts plan older fh which request list _ is)

pub set_unread : (verdicts : Verdicts) (plan : PlanData) (older : Past) (words : List ℕ) (fh : FhId) (which : ℕ) (request : Option RequestId) (list : List ExtControl) (check : Check)
    → first_refusal (opening_checks verdicts plan older fh which request true) ≡ Some (record { check = check; entry = None }) → MayAnswer verdicts plan older words (asks.SetCtrls fh which request list) (refused_at check (length list))
set_unread verdicts plan older words fh which request list check is =
    set_by verdicts plan older words fh which request list _ (set_opening verdicts plan older fh which request list _ is)

pub try_unread : (verdicts : Verdicts) (plan : PlanData) (older : Past) (words : List ℕ) (fh : FhId) (which : ℕ) (request : Option RequestId) (list : List ExtControl) (check : Check)
    → first_refusal (opening_checks verdicts plan older fh which request true) ≡ Some (record { check = check; entry = None }) → MayAnswer verdicts plan older words (asks.TryCtrls fh which request list) (refused_at check (length list))
try_unread verdicts plan older words fh which request list check is =
    try_by verdicts plan older words fh which request list _ (try_opening verdicts plan older fh which request list _ is)

-- a get that nothing refuses
pub get_passed : (verdicts : Verdicts) (plan : PlanData) (older : Past) (fh : FhId) (which : ℕ) (request : Option RequestId) (list : List ExtControl) (view : ViewData)
    → first_refusal (opening_checks verdicts plan older fh which request false) ≡ None → view ≡ read_view verdicts plan older fh which request → first_refusal (read_checks plan view list) ≡ None
    → first_refusal (get_checks verdicts plan older fh which request list) ≡ None
get_passed verdicts plan older fh which request list view opens read passed =
    first_behind (opening_checks verdicts plan older fh which request false) (read_checks plan (read_view verdicts plan older fh which request) list) opens ∙ subst (λ (v : ViewData). first_refusal (read_checks plan v list) ≡ None) read passed

-- a get that is answered
pub get_read : (verdicts : Verdicts) (plan : PlanData) (older : Past) (words : List ℕ) (fh : FhId) (which : ℕ) (request : Option RequestId) (list : List ExtControl) (view : ViewData) (entries : List ExtControl)
    → first_refusal (opening_checks verdicts plan older fh which request false) ≡ None → view ≡ read_view verdicts plan older fh which request → first_refusal (read_checks plan view list) ≡ None → entries ≡ entries_read plan view list
    → MayAnswer verdicts plan older words (asks.GetCtrls fh which request list) (Ok (Controls entries))
get_read verdicts plan older words fh which request list view entries opens read passed is =
    let own = get_passed verdicts plan older fh which request list view opens read passed in
    inl (ap (λ (l : List ExtControl). Ok (Controls l)) (is ∙ ap (λ (v : ViewData). entries_read plan v list) read)
    ∙ sym (ap (λ (first : Option Refusal). controls_of (answered (fault_at_count (length list)) first (entries_read plan (read_view verdicts plan older fh which request) list))) own))

-- a get that is refused
pub get_denied : (verdicts : Verdicts) (plan : PlanData) (older : Past) (words : List ℕ) (fh : FhId) (which : ℕ) (request : Option RequestId) (list : List ExtControl) (view : ViewData) (refusal : Refusal)
    → first_refusal (opening_checks verdicts plan older fh which request false) ≡ None → view ≡ read_view verdicts plan older fh which request
    → (first_refusal (read_checks plan view list) ≡ Some refusal) ⊎ (IsTrue (may_lack list) × (refusal ≡ memory_refusal))
    → MayAnswer verdicts plan older words (asks.GetCtrls fh which request list) (Err (fault_at_count (length list) refusal))
get_denied verdicts plan older words fh which request list view refusal opens read (inl is) =
    get_by verdicts plan older words fh which request list refusal (get_behind verdicts plan older fh which request list view refusal opens read is)
get_denied verdicts plan older words fh which request list view refusal opens read (inr lacks) = inr ((opens, lacks.0), ap (λ (r : Refusal). Err (fault_at_count (length list) r)) lacks.1)

-- a try that nothing refuses
pub try_passed : (verdicts : Verdicts) (plan : PlanData) (older : Past) (fh : FhId) (which : ℕ) (request : Option RequestId) (list : List ExtControl) (view : ViewData)
    → first_refusal (opening_checks verdicts plan older fh which request true) ≡ None → view ≡ write_view verdicts plan older fh which request → first_refusal (write_checks verdicts plan view false list) ≡ None
    → first_refusal (try_checks verdicts plan older fh which request list) ≡ None
try_passed verdicts plan older fh which request list view opens read passed =
    first_behind (opening_checks verdicts plan older fh which request true) (write_checks verdicts plan (write_view verdicts plan older fh which request) false list) opens
    ∙ subst (λ (v : ViewData). first_refusal (write_checks verdicts plan v false list) ≡ None) read passed

-- a try that is answered
pub try_judged : (verdicts : Verdicts) (plan : PlanData) (older : Past) (words : List ℕ) (fh : FhId) (which : ℕ) (request : Option RequestId) (list : List ExtControl) (view : ViewData) (entries : List ExtControl)
    → first_refusal (opening_checks verdicts plan older fh which request true) ≡ None → view ≡ write_view verdicts plan older fh which request
    → first_refusal (write_checks verdicts plan view false list) ≡ None → entries ≡ entries_judged verdicts plan view list
    → MayAnswer verdicts plan older words (asks.TryCtrls fh which request list) (Ok (Controls entries))
try_judged verdicts plan older words fh which request list view entries opens read passed is =
    let own = try_passed verdicts plan older fh which request list view opens read passed in
    inl (ap (λ (l : List ExtControl). Ok (Controls l)) (is ∙ ap (λ (v : ViewData). entries_judged verdicts plan v list) read)
    ∙ sym (ap (λ (first : Option Refusal). controls_of (answered (fault_at_entry (length list)) first (entries_judged verdicts plan (write_view verdicts plan older fh which request) list))) own))

-- a try that is refused
pub try_denied : (verdicts : Verdicts) (plan : PlanData) (older : Past) (words : List ℕ) (fh : FhId) (which : ℕ) (request : Option RequestId) (list : List ExtControl) (view : ViewData) (refusal : Refusal)
    → first_refusal (opening_checks verdicts plan older fh which request true) ≡ None → view ≡ write_view verdicts plan older fh which request
    → (first_refusal (write_checks verdicts plan view false list) ≡ Some refusal) ⊎ (IsTrue (may_lack list) × (refusal ≡ memory_refusal))
    → MayAnswer verdicts plan older words (asks.TryCtrls fh which request list) (Err (fault_at_entry (length list) refusal))
try_denied verdicts plan older words fh which request list view refusal opens read (inl is) =
    try_by verdicts plan older words fh which request list refusal (try_behind verdicts plan older fh which request list view refusal opens read is)
try_denied verdicts plan older words fh which request list view refusal opens read (inr lacks) = inr ((opens, lacks.0), ap (λ (r : Refusal). Err (fault_at_entry (length list) r)) lacks.1)

-- a set that is refused by the list's own checks
pub set_denied : (verdicts : Verdicts) (plan : PlanData) (older : Past) (words : List ℕ) (fh : FhId) (which : ℕ) (request : Option RequestId) (list : List ExtControl) (view : ViewData) (refusal : Refusal)
    → first_refusal (opening_checks verdicts plan older fh which request true) ≡ None → view ≡ write_view verdicts plan older fh which request
    → (first_refusal (write_checks verdicts plan view true list) ≡ Some refusal) ⊎ (IsTrue (may_lack list) × (refusal ≡ memory_refusal))
    → MayAnswer verdicts plan older words (asks.SetCtrls fh which request list) (Err (fault_at_count (length list) refusal))
set_denied verdicts plan older words fh which request list view refusal opens read (inl is) =
    set_by verdicts plan older words fh which request list refusal (set_behind verdicts plan older fh which request list view refusal opens read is)
set_denied verdicts plan older words fh which request list view refusal opens read (inr lacks) = inr ((opens, inl lacks.0), ap (λ (r : Refusal). Err (fault_at_count (length list) r)) lacks.1)

-- a set that they don't refuse: the limit of steps decides
set_left : (verdicts : Verdicts) (plan : PlanData) (older : Past) (fh : FhId) (which : ℕ) (request : Option RequestId) (list : List ExtControl) (view : ViewData)
    → first_refusal (opening_checks verdicts plan older fh which request true) ≡ None → view ≡ write_view verdicts plan older fh which request → first_refusal (write_checks verdicts plan view true list) ≡ None
    → first_refusal (set_checks verdicts plan older fh which request list) ≡ first_refusal (refused_if (is_full older) ListHistoryFull ∷ [])
set_left verdicts plan older fh which request list view opens read passed =
    first_behind (opening_checks verdicts plan older fh which request true) (own ++ limit) opens ∙ first_behind own limit (subst (λ (v : ViewData). first_refusal (write_checks verdicts plan v true list) ≡ None) read passed)
  where
    own : List (Option Refusal)
    own = write_checks verdicts plan (write_view verdicts plan older fh which request) true list

    limit : List (Option Refusal)
    limit = refused_if (is_full older) ListHistoryFull ∷ []

-- it refuses
pub set_full_why : (verdicts : Verdicts) (plan : PlanData) (older : Past) (fh : FhId) (which : ℕ) (request : Option RequestId) (list : List ExtControl) (view : ViewData)
    → first_refusal (opening_checks verdicts plan older fh which request true) ≡ None → view ≡ write_view verdicts plan older fh which request → first_refusal (write_checks verdicts plan view true list) ≡ None → is_full older ≡ true
    → first_refusal (set_checks verdicts plan older fh which request list) ≡ Some (record { check = ListHistoryFull; entry = None })
set_full_why verdicts plan older fh which request list view opens read passed full = set_left verdicts plan older fh which request list view opens read passed ∙ rw full refl

pub set_full : (verdicts : Verdicts) (plan : PlanData) (older : Past) (words : List ℕ) (fh : FhId) (which : ℕ) (request : Option RequestId) (list : List ExtControl) (view : ViewData)
    → first_refusal (opening_checks verdicts plan older fh which request true) ≡ None → view ≡ write_view verdicts plan older fh which request → first_refusal (write_checks verdicts plan view true list) ≡ None → is_full older ≡ true
    → MayAnswer verdicts plan older words (asks.SetCtrls fh which request list) (refused_at ListHistoryFull (length list))
set_full verdicts plan older words fh which request list view opens read passed full =
    set_by verdicts plan older words fh which request list _ (set_full_why verdicts plan older fh which request list view opens read passed full)

-- it doesn't
pub set_passed : (verdicts : Verdicts) (plan : PlanData) (older : Past) (fh : FhId) (which : ℕ) (request : Option RequestId) (list : List ExtControl) (view : ViewData)
    → first_refusal (opening_checks verdicts plan older fh which request true) ≡ None → view ≡ write_view verdicts plan older fh which request → first_refusal (write_checks verdicts plan view true list) ≡ None → is_full older ≡ false
    → first_refusal (set_checks verdicts plan older fh which request list) ≡ None
set_passed verdicts plan older fh which request list view opens read passed room = set_left verdicts plan older fh which request list view opens read passed ∙ rw room refl

pub set_accepted : (verdicts : Verdicts) (plan : PlanData) (older : Past) (fh : FhId) (which : ℕ) (request : Option RequestId) (list : List ExtControl) (view : ViewData) (answers : List ExtControl)
    → first_refusal (opening_checks verdicts plan older fh which request true) ≡ None → view ≡ write_view verdicts plan older fh which request → first_refusal (write_checks verdicts plan view true list) ≡ None
    → answers ≡ entries_judged verdicts plan view list → is_full older ≡ false → set_list_answer verdicts plan older fh which request list ≡ Ok (Controls answers)
set_accepted verdicts plan older fh which request list view answers opens read passed is room =
    let all = set_passed verdicts plan older fh which request list view opens read passed room in
    ap (λ (first : Option Refusal). controls_of (answered (fault_at_count (length list)) first (entries_judged verdicts plan (write_view verdicts plan older fh which request) list))) all
    ∙ ap (λ (l : List ExtControl). Ok (Controls l)) (sym (is ∙ ap (λ (v : ViewData). entries_judged verdicts plan v list) read))

-- what refuses an ask that is no list
pub refusal_alone : (verdicts : Verdicts) (plan : PlanData) (older : Past) (ask : Ask) → is_list ask ≡ false → refusal_of verdicts plan older ask ≡ option_map whole (check_of verdicts plan older ask)
refusal_alone verdicts plan older (asks.GetCtrls fh which request list) alone = cc
refusal_alone verdicts plan older (asks.SetCtrls fh which request list) alone = cc
refusal_alone verdicts plan older (asks.TryCtrls fh which request list) alone = cc
refusal_alone verdicts plan older ask alone = refl

pub alone_why : (verdicts : Verdicts) (device : DeviceData) (ask : Ask) (found : Option Refusal) → is_list ask ≡ false → found ≡ option_map whole (check_of verdicts device.plan (past device.steps) ask)
    → MatchOption found (refusal_of verdicts device.plan (past device.steps) ask ≡ None) (MayRefuse verdicts device ask)
alone_why verdicts device ask found alone is = by found (refusal_alone verdicts device.plan (past device.steps) ask alone ∙ sym is)
  where
    by : (o : Option Refusal) → refusal_of verdicts device.plan (past device.steps) ask ≡ o → MatchOption o (refusal_of verdicts device.plan (past device.steps) ask ≡ None) (MayRefuse verdicts device ask)
    by None same = same
    by (Some refusal) same = inl same

-- what holds where an ask is accepted holds of the answer as it is published
pub published_on : (ask : Ask) (answer : Result Reply Refusal) (P : Type 0) → OnOk answer P → OnOk (published ask answer) P
published_on ask (Ok reply) P holds = holds
published_on ask (Err refusal) P holds = tt
