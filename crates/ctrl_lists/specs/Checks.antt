-- What refuses a list of controls once its file handle, `which` and request are found good: the checks, each with its sentence (Linux userspace
-- API, "ioctl VIDIOC_G_EXT_CTRLS, VIDIOC_S_EXT_CTRLS, VIDIOC_TRY_EXT_CTRLS"; of this project, so that a kernel may differ, are their order,
-- the limit of 64, what a class and a list without entries answer, and that a DISABLED control and the default of a WRITE_ONLY one can't be
-- read).
use Rattle.std.specs.Prelude.{ℕ, Bool, true, false, not, ◌&&◌, ◌+◌, if◌then◌else◌, nat_lt, List, [], ◌∷◌, ◌++◌, length, Option, None, Some, Result, Ok, Err}
use Rattle.ctrl_types.specs.Flags.{contains}
use Rattle.ctrl_types.specs.declared.value.CtrlValue.{CtrlValue}
use Rattle.ctrl_types.specs.declared.errno.Errno.{Errno}
use Rattle.ctrl_types.specs.declared.errno.Errno.TheVariants.{EINVAL}
use Rattle.ctrl_types.specs.declared.check.Check.{Check}
use Rattle.ctrl_types.specs.declared.check.Check.TheVariants.{TooManyEntries, ClassNotShown, EntryNotShown, EntryOfOtherClass, EntryDisabled, EntryWriteOnly, EntryReadOnly, EntryGrabbed, RowRefused}
use Rattle.ctrl_types.specs.declared.flags.TheConstants.Flags.{DISABLED, READ_ONLY, WRITE_ONLY}
use Rattle.ctrl_types.specs.declared.ids.CtrlId.{CtrlId}
use Rattle.ctrl_types.specs.declared.ids.ExtControl.{ExtControl}
use Rattle.ctrl_types.specs.declared.ids.Pair.{Pair}
use Rattle.ctrl_types.specs.declared.which.Which.{Which}
use Rattle.ctrl_types.specs.declared.which.Which.TheVariants.{Class}
use Rattle.ctrl_calls.specs.Meanings.{Verdicts}
use Rattle.ctrl_settle.specs.Settle.{settle_check}
use Rattle.ctrl_handlers.specs.Plan.{PlanData, control, control_in, cluster_of}
use Rattle.ctrl_clusters.specs.Rows.{is_grabbed}
use Rattle.ctrl_clusters.specs.Overlay.{row_after, no_grabs}
use Rattle.ctrl_lists.specs.declared.limits.TheConstants.{MAX_ENTRIES}
use Rattle.ctrl_types.specs.declared.refusal.Refusal.{Refusal}
use Rattle.ctrl_handlers.specs.Visible.{find}
use Rattle.ctrl_lists.specs.View.{ViewData, is_meant, pairs_of, shows_class}

-- the whole list is refused where this holds
abbrev pub refused_if : Bool → Check → Option Refusal
refused_if true check = Some (record { check = check; entry = None })
refused_if false check = None

-- what is found at a place stands before what is found behind it
abbrev pub found_at : ℕ → Option Check → Option Refusal → Option Refusal
found_at n (Some check) behind = Some (record { check = check; entry = Some n })
found_at n None behind = behind

-- the first item that is refused, with its place, where the places begin at n
abbrev pub first_from : {X : Type 0} → (X → Option Check) → ℕ → List X → Option Refusal
first_from refused n [] = None
first_from refused n (x ∷ xs) = found_at n (refused x) (first_from refused (n + 1) xs)

-- the same, where they begin at 0
abbrev pub at_first : {X : Type 0} → (X → Option Check) → List X → Option Refusal
at_first refused xs = first_from refused 0 xs

-- the first check that refuses
abbrev pub first_refusal : List (Option Refusal) → Option Refusal
first_refusal [] = None
first_refusal (None ∷ checks) = first_refusal checks
first_refusal (Some refusal ∷ checks) = Some refusal

-- a cluster that doesn't take its row, with the errno of the first member that doesn't settle, or else of judging
abbrev pub row_check : {X : Type 0} → Result X Errno → Option Check
row_check (Ok x) = None
row_check (Err errno) = Some (RowRefused errno)

-- more entries than a list may have
abbrev pub is_long : List ExtControl → Bool
is_long list = nat_lt MAX_ENTRIES (length list)

-- a class of which no control is shown
abbrev pub shows_none_of : PlanData → ViewData → Which → Bool
shows_none_of plan view (Class n) = not (shows_class plan view.handler n)
shows_none_of plan view _ = false

-- no entries, about a class of which no control is shown
abbrev pub is_of_no_class : PlanData → ViewData → List ExtControl → Bool
is_of_no_class plan view [] = shows_none_of plan view view.which
is_of_no_class plan view (entry ∷ rest) = false

-- why the control that an id finds isn't named by it: the list is about another class, or the control is DISABLED
abbrev pub unnamed : PlanData → Which → CtrlId → Option ℕ → Option Check
unnamed plan which id None = Some EntryNotShown
unnamed plan which id (Some c) = if not (is_meant which id) then Some EntryOfOtherClass else if contains (control plan c).flags DISABLED then Some EntryDisabled else None

-- an entry that names no control, as the law `unnamed_entries` says: its id isn't shown, isn't of the class that the list speaks of, or its control is DISABLED; the first of these
-- is meant
abbrev pub naming_check : PlanData → ViewData → ExtControl → Option Check
naming_check plan view entry = unnamed plan view.which entry.id (find plan view.handler entry.id)

-- a control that can't be read
abbrev pub reading_check : PlanData → Pair → Option Check
reading_check plan p = if contains (control plan p.control).flags WRITE_ONLY then Some EntryWriteOnly else None

-- a control that can't be written: it is READ_ONLY, or, where it is to be set, grabbed; or its value doesn't settle
abbrev pub writing_check : PlanData → ViewData → Bool → Pair → Option Check
writing_check plan view is_set p =
    if contains (control plan p.control).flags READ_ONLY then Some EntryReadOnly
    else if is_set && is_grabbed view.grabs p.control then Some EntryGrabbed
    else settle_check (control_in view.ranges p.control) p.value

-- the pairs that are laid over the values: those from before, and then the list's
abbrev pub pairs_judged : PlanData → ViewData → List ExtControl → List Pair
pairs_judged plan view list = view.asked ++ pairs_of plan view.handler view.which list

-- The row of a cluster once pairs are laid over the values. Grabs refuse entries before, one by one, and pairs from before are laid whatever
-- is grabbed. A control that is in no cluster, as none of a finished plan is, can't be judged.
abbrev pub row_judged : Verdicts → PlanData → ViewData → List Pair → Option ℕ → Result (List CtrlValue) Errno
row_judged verdicts plan view pairs None = Err EINVAL
row_judged verdicts plan view pairs (Some k) = row_after verdicts plan view.ranges view.values no_grabs pairs k

-- a control whose cluster is refused: a member doesn't settle, or judging refuses the row
abbrev pub judging_check : Verdicts → PlanData → ViewData → List Pair → Pair → Option Check
judging_check verdicts plan view pairs p = row_check (row_judged verdicts plan view pairs (cluster_of plan p.control))

-- The checks of a list that reads, the first refusal first. Once each entry names a control, the places of the pairs are those of the
-- entries.
abbrev pub read_checks : PlanData → ViewData → List ExtControl → List (Option Refusal)
read_checks plan view list =
    -- more than 64 entries
    refused_if (is_long list) TooManyEntries
    -- no entries, about a class of which no control is shown
    ∷ refused_if (is_of_no_class plan view list) ClassNotShown
    -- the first entry that names no control
    ∷ at_first (naming_check plan view) list
    -- the first control that is WRITE_ONLY
    ∷ at_first (reading_check plan) (pairs_of plan view.handler view.which list)
    ∷ []

-- The checks of a list that writes, to set or to try, that are made before a cluster is judged, the first refusal first; places as above.
abbrev pub entry_checks : PlanData → ViewData → Bool → List ExtControl → List (Option Refusal)
entry_checks plan view is_set list =
    -- more than 64 entries
    refused_if (is_long list) TooManyEntries
    -- no entries, about a class of which no control is shown
    ∷ refused_if (is_of_no_class plan view list) ClassNotShown
    -- the first entry that names no control
    ∷ at_first (naming_check plan view) list
    -- the first control that can't be written, looked at in this order: READ_ONLY; to be set and grabbed; a value that doesn't settle
    ∷ at_first (writing_check plan view is_set) (pairs_of plan view.handler view.which list)
    ∷ []

-- All checks of a list that writes, the first refusal first: those, and last its clusters.
abbrev pub write_checks : Verdicts → PlanData → ViewData → Bool → List ExtControl → List (Option Refusal)
write_checks verdicts plan view is_set list =
    entry_checks plan view is_set list
    -- the first control whose cluster is refused, which is that of the first entry of the first such cluster: the errno of the first member
    -- that doesn't settle, or else that of judging
    ++ at_first (judging_check verdicts plan view (pairs_judged plan view list)) (pairs_of plan view.handler view.which list)
    ∷ []
