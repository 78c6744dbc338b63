-- Lists of controls: what getting, setting and trying them is answered after a history, and the pairs of a list (Linux userspace
-- API, "ioctl VIDIOC_G_EXT_CTRLS, VIDIOC_S_EXT_CTRLS, VIDIOC_TRY_EXT_CTRLS"; the order of the refusals and the index are of this
-- project).
use Rattle.std.specs.Prelude.{◌≡◌, ℕ, Bool, true, false, not, if◌then◌else◌, ◌++◌, List, [], ◌∷◌, length, Option, None, Some, unwrap_or, Result, Ok, Err, IsOk, IsTrue, ◌⊎◌}
use Rattle.std.specs.Option.{is_none, option_and_then}
use Rattle.std.specs.Result.{is_ok}
use Rattle.ctrl_types.specs.declared.check.Check.{Check}
use Rattle.ctrl_types.specs.declared.check.Check.TheVariants.{ListHandleNotOpen, WhichUnknown, DefaultsWritten, ListRequestMissing, ListRequestNotIdle, ListRequestNotComplete, ListHistoryFull}
use Rattle.ctrl_types.specs.Classes.{which_of}
use Rattle.ctrl_types.specs.declared.which.Which.{Which}
use Rattle.ctrl_types.specs.declared.which.Which.TheVariants.{Current, Defaults, Request}
use Rattle.ctrl_types.specs.declared.ids.ExtControl.{ExtControl}
use Rattle.ctrl_types.specs.declared.ids.FhId.{FhId}
use Rattle.ctrl_types.specs.declared.ids.Pair.{Pair}
use Rattle.ctrl_types.specs.declared.ids.RequestId.{RequestId}
use Rattle.device_history.specs.declared.ask.Reply.TheVariants.{Controls}
use Rattle.device_history.specs.declared.ask.Step.{Step}
use Rattle.device_history.specs.declared.ask.Step.TheVariants.{Set, Store}
use Rattle.ctrl_handlers.specs.Plan.{PlanData}
use Rattle.ctrl_calls.specs.Meanings.{Verdicts}
use Rattle.ctrl_clusters.specs.Rows.{Values}
use Rattle.ctrl_types.specs.declared.refusal.Refusal.{Refusal}
use Rattle.ctrl_lists.specs.View.{ViewData, pairs_of}
use Rattle.ctrl_lists.specs.Checks.{first_refusal, refused_if, read_checks, entry_checks, write_checks}
use Rattle.ctrl_lists.specs.Answers.{ListAnswer, answered, entries_read, entries_judged, may_lack}
use Rattle.ctrl_types.specs.Refusals.{fault_at_count, fault_at_entry}
use Rattle.device_history.specs.Steps.{Past}
use Rattle.device_history.specs.Refusals.{Answer, is_full}
use Rattle.device_history.specs.Handles.{handler_of}
use Rattle.device_history.specs.Ranges.{ranges_now}
use Rattle.device_history.specs.Grabs.{grabbed}
use Rattle.device_history.specs.Requests.{asked}
use Rattle.device_history.specs.Snapshots.{request, snapshot}
use Rattle.device_history.specs.Controls.{controls_now}
use Rattle.device_history.specs.Laid.{laid}
use Rattle.device_history.specs.Values.{now}
use Rattle.req_book.specs.Requests.{RequestData, is_idle, is_complete}

-- a list that writes can't speak of the defaults
abbrev pub writes_defaults : Bool → Which → Bool
writes_defaults writes Defaults = writes
writes_defaults writes _ = false

-- why a request refuses a list: it isn't there; for one that writes, it isn't idle; for one that reads, it isn't complete
abbrev pub request_check : Bool → Option RequestData → Option Check
request_check writes None = Some ListRequestMissing
request_check true (Some r) = if is_idle r.state then None else Some ListRequestNotIdle
request_check false (Some r) = if is_complete r.state then None else Some ListRequestNotComplete

-- the same, where the list speaks of a request; one that isn't named isn't there
abbrev pub meant_check : Verdicts → PlanData → Past → Bool → Which → Option RequestId → Option Check
meant_check verdicts plan past writes Request id = request_check writes (option_and_then (λ r. request verdicts plan past r.0) id)
meant_check verdicts plan past writes _ id = None

-- the whole list is refused by a check, where there is one
abbrev pub refused_by : Option Check → Option Refusal
refused_by None = None
refused_by (Some check) = Some (record { check = check; entry = None })

-- what `which` stands for; where it can't be read, which refuses the list, the present values stand in
abbrev pub which_or : Result Which Check → Which
which_or (Ok which) = which
which_or (Err check) = Current

-- the handler of a file handle; where it isn't open, which refuses the list, 0 stands in
abbrev pub handler_or : Option ℕ → ℕ
handler_or handler = unwrap_or handler 0

-- the request that a list speaks of, where it does
abbrev pub meant : Which → Option RequestId → Option RequestId
meant Request request = request
meant _ request = None

-- the values that a get reads: the snapshot of the request that it speaks of, and else the present ones
abbrev pub values_read : Verdicts → PlanData → Past → Option RequestId → Values
values_read verdicts plan past None = now verdicts plan past
values_read verdicts plan past (Some r) = snapshot verdicts plan past r.0

-- What a get is read against: the handler of its file handle, which values it speaks of, the ranges of the moment, those values, the
-- grabs, and no pairs from before.
abbrev pub read_view : Verdicts → PlanData → Past → FhId → ℕ → Option RequestId → ViewData
read_view verdicts plan past fh which request = record {
  handler = handler_or (handler_of past fh);
  which = which_or (which_of which);
  ranges = ranges_now plan past;
  values = values_read verdicts plan past (meant (which_or (which_of which)) request);
  grabs = grabbed plan past;
  asked = [];
}

-- the pairs that are laid before those of a list: what the request asks for that the list speaks of
abbrev pub earlier_pairs : PlanData → Past → Option RequestId → List Pair
earlier_pairs plan past None = []
earlier_pairs plan past (Some r) = asked plan past r.0

-- What a set and a try are judged against: the same, with the present values, and the pairs from before.
abbrev pub write_view : Verdicts → PlanData → Past → FhId → ℕ → Option RequestId → ViewData
write_view verdicts plan past fh which request = record {
  handler = handler_or (handler_of past fh);
  which = which_or (which_of which);
  ranges = ranges_now plan past;
  values = now verdicts plan past;
  grabs = grabbed plan past;
  asked = earlier_pairs plan past (meant (which_or (which_of which)) request);
}

-- The checks that every list begins with, the first refusal first; `writes` says whether the list writes.
abbrev pub opening_checks : Verdicts → PlanData → Past → FhId → ℕ → Option RequestId → Bool → List (Option Refusal)
opening_checks verdicts plan past fh which request writes =
    -- the file handle isn't open
    refused_if (is_none (handler_of past fh)) ListHandleNotOpen
    -- `which` can't be read
    ∷ refused_if (not (is_ok (which_of which))) WhichUnknown
    -- it speaks of the defaults and the list writes
    ∷ refused_if (writes_defaults writes (which_or (which_of which))) DefaultsWritten
    -- it speaks of a request: there is none; the list writes and it isn't idle; the list reads and it isn't complete
    ∷ refused_by (meant_check verdicts plan past writes (which_or (which_of which)) request)
    ∷ []

-- The checks of a get, the first refusal first: those that every list begins with, and then those of a list that reads
-- (ctrl_lists/specs/Checks).
abbrev pub get_checks : Verdicts → PlanData → Past → FhId → ℕ → Option RequestId → List ExtControl → List (Option Refusal)
get_checks verdicts plan past fh which request list =
    opening_checks verdicts plan past fh which request false ++ read_checks plan (read_view verdicts plan past fh which request) list

-- The checks of a set, the first refusal first: those that every list begins with, those of a list that writes, to set
-- (ctrl_lists/specs/Checks), and last that no further step is kept.
abbrev pub set_checks : Verdicts → PlanData → Past → FhId → ℕ → Option RequestId → List ExtControl → List (Option Refusal)
set_checks verdicts plan past fh which request list =
    opening_checks verdicts plan past fh which request true
    ++ (write_checks verdicts plan (write_view verdicts plan past fh which request) true list ++ refused_if (is_full past) ListHistoryFull ∷ [])

-- The checks of a try, the first refusal first: those that every list begins with, and then those of a list that writes, to try
-- (ctrl_lists/specs/Checks).
abbrev pub try_checks : Verdicts → PlanData → Past → FhId → ℕ → Option RequestId → List ExtControl → List (Option Refusal)
try_checks verdicts plan past fh which request list =
    opening_checks verdicts plan past fh which request true ++ write_checks verdicts plan (write_view verdicts plan past fh which request) false list

-- The checks of a set or a try that are made before a cluster is judged: those that every list begins with, and then those of its entries
-- (ctrl_lists/specs/Checks).
abbrev pub checks_before_judging : Verdicts → PlanData → Past → FhId → ℕ → Option RequestId → Bool → List ExtControl → List (Option Refusal)
checks_before_judging verdicts plan past fh which request is_set list =
    opening_checks verdicts plan past fh which request true ++ entry_checks plan (write_view verdicts plan past fh which request) is_set list

-- the reply with a list's controls, or its fault
abbrev pub controls_of : ListAnswer → Answer
controls_of (Ok entries) = Ok (Controls entries)
controls_of (Err fault) = Err fault

-- Getting controls: the first refusal, with the number of entries as its index, or each entry's control as it is read.
abbrev pub get_list_answer : Verdicts → PlanData → Past → FhId → ℕ → Option RequestId → List ExtControl → Answer
get_list_answer verdicts plan past fh which request list =
    controls_of (answered (fault_at_count (length list)) (first_refusal (get_checks verdicts plan past fh which request list)) (entries_read plan (read_view verdicts plan past fh which request) list))

-- Setting controls: the first refusal, with the number of entries as its index, or each entry's control as it is judged.
abbrev pub set_list_answer : Verdicts → PlanData → Past → FhId → ℕ → Option RequestId → List ExtControl → Answer
set_list_answer verdicts plan past fh which request list =
    controls_of (answered (fault_at_count (length list)) (first_refusal (set_checks verdicts plan past fh which request list)) (entries_judged verdicts plan (write_view verdicts plan past fh which request) list))

-- Trying controls: the first refusal, at its entry where it stands at one, or each entry's control as it is judged.
abbrev pub try_list_answer : Verdicts → PlanData → Past → FhId → ℕ → Option RequestId → List ExtControl → Answer
try_list_answer verdicts plan past fh which request list =
    controls_of (answered (fault_at_entry (length list)) (first_refusal (try_checks verdicts plan past fh which request list)) (entries_judged verdicts plan (write_view verdicts plan past fh which request) list))

-- Want of memory may take the place of every answer to a list with entries, and not too many, that passes the checks that every list begins
-- with.
abbrev pub MayLackList : Verdicts → PlanData → Past → FhId → ℕ → Option RequestId → Bool → List ExtControl → Type 0
MayLackList verdicts plan past fh which request writes list = (first_refusal (opening_checks verdicts plan past fh which request writes) ≡ None) × IsTrue (may_lack list)

-- For a set it may also take the place of success, so that of an accepted one without entries too.
abbrev pub MayLackSet : Verdicts → PlanData → Past → FhId → ℕ → Option RequestId → List ExtControl → Answer → Type 0
MayLackSet verdicts plan past fh which request list answer =
    (first_refusal (opening_checks verdicts plan past fh which request true) ≡ None) × (IsTrue (may_lack list) ⊎ IsOk answer)

-- The pairs of a list: each entry's control, with the value as it was given.
abbrev pub list_pairs : PlanData → Past → FhId → ℕ → List ExtControl → List Pair
list_pairs plan past fh which list = pairs_of plan (handler_or (handler_of past fh)) (which_or (which_of which)) list

-- the step of pairs that are set: one that stores them, where the list speaks of a request
abbrev pub pairs_step : Option RequestId → FhId → List Pair → Step
pairs_step None fh pairs = Set fh pairs
pairs_step (Some r) fh pairs = Store r pairs

-- the step of a list that is set
abbrev pub list_step : PlanData → Past → FhId → ℕ → Option RequestId → List ExtControl → Step
list_step plan past fh which request list = pairs_step (meant (which_or (which_of which)) request) fh (list_pairs plan past fh which list)

-- the present values once a list is set that speaks of no request
abbrev pub values_set : Verdicts → PlanData → Past → FhId → ℕ → List ExtControl → Values
values_set verdicts plan older fh which list = laid verdicts plan (controls_now verdicts plan older) (list_pairs plan older fh which list)
