-- The entries of a list, as the device takes them, and what refuses their payloads (Linux userspace API, "ioctl VIDIOC_G_EXT_CTRLS, VIDIOC_S_EXT_CTRLS,
-- VIDIOC_TRY_EXT_CTRLS"; Linux, v4l2-ctrls-api.c, for the order in which payloads are looked at).
use Rattle.std.specs.Prelude.{◌≡◌, ◌≤◌, ◌==◌, ◌&&◌, ◌||◌, ◌+◌, ℕ, pos, Bool, true, false, if◌then◌else◌, nat_lt, nat_le, List, [], ◌∷◌, replicate, map, length, slice_get, Option, None, Some, unwrap_or, Result, Ok, Err}
use Rattle.std.specs.List.{find as first_that, range_with_len}
use Rattle.std.specs.Option.{option_map}
use Rattle.ctrl_types.specs.Checks.{check_number}
use Rattle.ctrl_types.specs.declared.bytes.TheConstants.{MAX_ELEMENTS}
use Rattle.ctrl_types.specs.declared.ids.ExtControl.{ExtControl}
use Rattle.ctrl_types.specs.declared.value.CtrlValue.{CtrlValue}
use Rattle.ctrl_types.specs.declared.value.CtrlValue.TheVariants.{Bytes, Number}
use Rattle.ctrl_handlers.specs.Plan.{PlanData}
use Rattle.ctrl_types.specs.declared.refusal.Refusal.{Refusal}
use Rattle.call_structs.specs.Entries.{id_at, value_at, with_told}
use Rattle.call_structs.specs.declared.entries.Form.{Form}
use Rattle.call_structs.specs.declared.entries.Form.TheVariants.{Array, Narrow}
use Rattle.call_structs.specs.declared.entries.PayloadFault.{PayloadFault}
use Rattle.call_structs.specs.declared.entries.PayloadFault.TheVariants.{TooSmall, Unreadable}
use Rattle.ctl_session.specs.Ids.{form_by_id}

-- what stands in for a payload that can't be taken
abbrev pub stand_in : Form → CtrlValue
stand_in (Array elems) = Bytes (replicate elems 0)
stand_in _ = Number (pos 0)

-- a value, or what stands in for it
abbrev pub value_or : Form → Result CtrlValue PayloadFault → CtrlValue
value_or form (Ok value) = value
value_or form (Err fault) = stand_in form

-- the form of each entry of a list
abbrev pub forms_in : PlanData → ℕ → ℕ → List ℕ → List Form
forms_in plan h count bytes = map (λ place. form_by_id plan h (id_at place bytes)) (range_with_len 0 count)

-- the form of the entry at a place
abbrev pub form_at : List Form → ℕ → Form
form_at forms place = unwrap_or (slice_get forms place) Narrow

-- the elements of an array have room in a slot
abbrev pub HasSlot : Form → Type 0
HasSlot form = (elems : ℕ) → form ≡ Array elems → elems ≤ MAX_ELEMENTS

-- the value of the entry at a place
abbrev pub read_at : List Form → List ℕ → ℕ → Result CtrlValue PayloadFault
read_at forms bytes place = value_at (form_at forms place) (length forms) place bytes

-- that entry as the device takes it
abbrev pub entry_seen : List Form → List ℕ → ℕ → ExtControl
entry_seen forms bytes place = record { id = id_at place bytes; value = value_or (form_at forms place) (read_at forms bytes place) }

-- the entries of a list
abbrev pub entries_in : List Form → List ℕ → List ExtControl
entries_in forms bytes = map (entry_seen forms bytes) (range_with_len 0 (length forms))

-- whether the payload of an entry has a fault
abbrev pub is_too_small : Result CtrlValue PayloadFault → Bool
is_too_small (Err TooSmall) = true
is_too_small _ = false

abbrev pub is_unreadable : Result CtrlValue PayloadFault → Bool
is_unreadable (Err Unreadable) = true
is_unreadable _ = false

abbrev pub has_fault : PayloadFault → Result CtrlValue PayloadFault → Bool
has_fault TooSmall value = is_too_small value
has_fault Unreadable value = is_unreadable value

-- the first entry whose payload has a fault
abbrev pub first_with : List Form → List ℕ → PayloadFault → Option ℕ
first_with forms bytes fault = first_that (λ place. has_fault fault (read_at forms bytes place)) (range_with_len 0 (length forms))

-- a place with the fault of its payload
abbrev pub Wrong : Type 0
Wrong = ℕ × PayloadFault

-- the first of two
abbrev pub or_else : Option Wrong → Option Wrong → Option Wrong
or_else (Some wrong) later = Some wrong
or_else None later = later

-- The first payload that can't be taken: one that has no room, and else, where the list writes, one that can't be read.
abbrev pub wrong_payload : List Form → Bool → List ℕ → Option Wrong
wrong_payload forms writes bytes =
    or_else (option_map (λ place. (place, TooSmall)) (first_with forms bytes TooSmall))
    (if writes then option_map (λ place. (place, Unreadable)) (first_with forms bytes Unreadable) else None)

-- whether an entry is refused at a place, or before it; a list that is refused as a whole is refused before all entries
abbrev pub is_up_to : Option ℕ → ℕ → Bool
is_up_to None place = true
is_up_to (Some entry) place = nat_le entry place

abbrev pub is_below : Option ℕ → ℕ → Bool
is_below None place = true
is_below (Some entry) place = nat_lt entry place

-- whether an entry names the control that the one at a place names
abbrev pub names_same : List ℕ → ℕ → ℕ → Bool
names_same bytes place other = (id_at place bytes).0 == (id_at other bytes).0

-- the first entry that names it
abbrev pub first_of_control : ℕ → List ℕ → ℕ → ℕ
first_of_control count bytes place = unwrap_or (first_that (names_same bytes place) (range_with_len 0 count)) place

-- Whether a check refuses a list before a payload does. Entries are named one after another, and each then has its room looked at; payloads are read behind the checks of all
-- entries, when the clusters are judged in the order of their first entries, of which `first` is that of the payload's.
abbrev pub stands_before : Option Refusal → Wrong → ℕ → Bool
stands_before None wrong first = false
stands_before (Some refusal) (place, TooSmall) first =
    nat_lt (check_number refusal.check) 6 || (check_number refusal.check == 6 && is_up_to refusal.entry place)
stands_before (Some refusal) (place, Unreadable) first =
    nat_lt (check_number refusal.check) 8 || (check_number refusal.check == 8 && is_below refusal.entry first)

-- the bytes of a list with values in its entries and slots, from a place on, as far as there are entries
abbrev pub with_values : List Form → ℕ → List ExtControl → List ℕ → List ℕ
with_values forms place [] bytes = bytes
with_values forms place (entry ∷ rest) bytes =
    if nat_lt place (length forms)
    then with_values forms (place + 1) rest (with_told (form_at forms place) (length forms) place entry.value bytes)
    else bytes
