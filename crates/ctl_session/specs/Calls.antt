-- What a control call means: what is asked of the device, one ask after another until one is refused, and what is told then: an errno, 0 for none, and the struct of
-- the call (Linux userspace API, "Function Reference").
use Rattle.std.specs.Prelude.{◌≡◌, ◌⊎◌, ◌==◌, ◌-◌, ℕ, Bool, true, false, if◌then◌else◌, min, nat_lt, bit_and, List, [], ◌∷◌, length, map, Option, None, Some, is_some, Result, Ok, Err}
use Rattle.std.specs.List.{filter, range_with_len}
use Rattle.history.specs.Past.{past}
use Rattle.ctrl_calls.specs.Meanings.{Verdicts}
use Rattle.ctrl_types.specs.Numbers.{errno_number}
use Rattle.ctrl_types.specs.Values.{number_of}
use Rattle.ctrl_types.specs.declared.errno.Errno.TheVariants.{EBADF, EINVAL, ENOSPC}
use Rattle.ctrl_types.specs.declared.errno.Fault.{Fault}
use Rattle.ctrl_types.specs.declared.ids.CtrlId.{CtrlId}
use Rattle.ctrl_types.specs.declared.ids.ExtControl.{ExtControl}
use Rattle.ctrl_types.specs.declared.ids.FhId.{FhId}
use Rattle.ctrl_types.specs.declared.ids.RequestId.{RequestId}
use Rattle.ctrl_types.specs.declared.sub_flags.TheConstants.SubFlags.{ALLOW_FEEDBACK}
use Rattle.ctrl_types.specs.declared.value.CtrlValue.TheVariants.{Number}
use Rattle.ctrl_settle.specs.Control.{Control}
use Rattle.ctrl_handlers.specs.Plan.{PlanData, control}
use Rattle.device_history.specs.declared.ask.Ask.{Ask}
use Rattle.device_history.specs.declared.ask.Ask.TheVariants as asks
use Rattle.device_history.specs.declared.ask.Reply.TheVariants.{Controls, Event, Info, Item}
use Rattle.device_history.specs.declared.info.CtrlInfo.{CtrlInfo}
use Rattle.device_history.specs.Handles.{handler_of}
use Rattle.device_history.specs.Refusals.{Answer}
use Rattle.device_history.specs.Subscriptions.{subscribed}
use Rattle.device_state.specs.Device.{DeviceData}
use Rattle.ioctl_bytes.specs.Fields.{i32_in, u32_in, with_low, with_u32}
use Rattle.ioctl_bytes.specs.declared.calls.TheConstants as calls
use Rattle.ioctl_bytes.specs.declared.layout.v4l2_control.TheConstants as one
use Rattle.ioctl_bytes.specs.declared.layout.v4l2_event.TheConstants as event
use Rattle.ioctl_bytes.specs.declared.layout.v4l2_event_subscription.TheConstants as subscription
use Rattle.ioctl_bytes.specs.declared.layout.v4l2_ext_controls.TheConstants as head
use Rattle.ioctl_bytes.specs.declared.layout.v4l2_query_ext_ctrl.TheConstants as ext
use Rattle.ioctl_bytes.specs.declared.layout.v4l2_queryctrl.TheConstants as query
use Rattle.ioctl_bytes.specs.declared.layout.v4l2_querymenu.TheConstants as menu
use Rattle.call_structs.specs.Entries.{list_size, with_size}
use Rattle.call_structs.specs.Told.{event_told, is_heading, query_ext_ctrl, queryctrl, querymenu}
use Rattle.call_structs.specs.declared.entries.Form.{Form}
use Rattle.call_structs.specs.declared.entries.Form.TheVariants.{Array}
use Rattle.call_structs.specs.declared.entries.PayloadFault.{PayloadFault}
use Rattle.call_structs.specs.declared.entries.PayloadFault.TheVariants.{TooSmall}
use Rattle.ctl_session.specs.declared.calls.TheConstants.{CUT, NO_CALL}
use Rattle.ctl_session.specs.declared.list_calls.Access.{Access}
use Rattle.ctl_session.specs.declared.list_calls.Access.TheVariants.{Get, Set, Try}
use Rattle.ctl_session.specs.declared.lists.TheConstants.{MOST_ENTRIES, V4L2_CID_MAX_CTRLS}
use Rattle.ctl_session.specs.Ids.{form_by_id, is_narrow, is_old, queried, real_id, shown}
use Rattle.ctl_session.specs.Lists.{Wrong, entries_in, first_of_control, form_at, forms_in, stands_before, with_values, wrong_payload}
use Rattle.ctl_session.specs.Session.{Asked, SessionData, Stays, errno_in, refusal_in, without_room}

-- an errno, 0 for none, and the struct of the call as it is then
abbrev pub Told : Type 0
Told = ℕ × List ℕ

-- What a call means: its asks, what is told by their answers, and, where the session itself needs room for them, what is told where there is none.
pub record Meaning : Type 0 where
  pub asks : List Ask
  pub told : List Answer → Told
  pub short : Option Told

-- refused by the session: nothing is asked
abbrev pub refused : ℕ → List ℕ → Meaning
refused errno bytes = record { asks = []; told = λ answers. (errno, bytes); short = None }

-- the first answer, by which a call of one ask is told
abbrev pub by_first : (Answer → Told) → List Answer → Told
by_first tell [] = tell without_room
by_first tell (answer ∷ rest) = tell answer

-- one ask
abbrev pub asks_one : Ask → (Answer → Told) → Meaning
asks_one ask tell = record { asks = ask ∷ []; told = by_first tell; short = None }

-- one ask of a list, for which there may be no room
abbrev pub asking_list : Ask → (Answer → Told) → Meaning
asking_list ask tell = record { asks = ask ∷ []; told = by_first tell; short = Some (tell without_room) }

-- a struct of another size can't be read
abbrev pub sized : ℕ → List ℕ → Meaning → Meaning
sized size bytes meaning = if length bytes == size then meaning else refused CUT bytes

-- the plan of a session's device
abbrev pub plan_in : SessionData → PlanData
plan_in session = session.device.plan

-- Queries of a control.

-- a control that was asked for by its old id is told by it
abbrev pub with_old_id : ℕ → List ℕ → List ℕ
with_old_id id bytes = if is_old id then with_u32 query.ID id bytes else bytes

-- the control that an answer tells of; the error is an errno
abbrev pub info_told : Answer → Result CtrlInfo ℕ
info_told (Ok (Info info)) = Ok info
info_told (Ok reply) = Err NO_CALL
info_told (Err fault) = Err (errno_number fault.errno)

-- that control in the struct of a query
abbrev pub info_put : (CtrlInfo → List ℕ) → List ℕ → Result CtrlInfo ℕ → Told
info_put put bytes (Ok info) = (0, with_old_id (u32_in query.ID bytes) (put info))
info_put put bytes (Err errno) = (errno, bytes)

-- what a query is told
abbrev pub query_told : (CtrlInfo → List ℕ) → List ℕ → Answer → Told
query_told put bytes answer = info_put put bytes (info_told answer)

-- a query of the control that its id speaks of
abbrev pub query_meant : (CtrlInfo → List ℕ) → FhId → List ℕ → Option CtrlId → Meaning
query_meant put fh bytes None = refused (errno_number EINVAL) bytes
query_meant put fh bytes (Some id) = asks_one (asks.Query fh id) (query_told put bytes)

abbrev pub query_call : PlanData → ℕ → (CtrlInfo → List ℕ) → FhId → List ℕ → Meaning
query_call plan h put fh bytes = query_meant put fh bytes (queried plan h (u32_in query.ID bytes))

-- what a query of an item is told
abbrev pub item_told : List ℕ → Answer → Told
item_told bytes (Ok (Item item)) = (0, querymenu item bytes)
item_told bytes (Ok reply) = (NO_CALL, bytes)
item_told bytes (Err fault) = (errno_number fault.errno, bytes)

-- the ask for the item of the menu that the id stands for
abbrev pub menu_ask : PlanData → ℕ → FhId → List ℕ → Ask
menu_ask plan h fh bytes = asks.MenuItem fh (real_id plan h (record { 0 = u32_in menu.ID bytes })) (u32_in menu.INDEX bytes)

abbrev pub menu_call : PlanData → ℕ → FhId → List ℕ → Meaning
menu_call plan h fh bytes = asks_one (menu_ask plan h fh bytes) (item_told bytes)

-- One control.

-- what one control is told: the value of the one entry
abbrev pub one_told : List ℕ → Answer → Told
one_told bytes (Ok (Controls (entry ∷ rest))) = (0, with_low one.VALUE (number_of entry.value) bytes)
one_told bytes (Ok reply) = (NO_CALL, bytes)
one_told bytes (Err fault) = (errno_number fault.errno, bytes)

-- the list of one entry that a call on one control is
abbrev pub one_entry : CtrlId → List ℕ → List ExtControl
one_entry id bytes = record { id = id; value = Number (i32_in one.VALUE bytes) } ∷ []

abbrev pub one_ask : Bool → FhId → List ExtControl → Ask
one_ask true fh list = asks.SetCtrls fh 0 None list
one_ask false fh list = asks.GetCtrls fh 0 None list

-- the control that the call is about
abbrev pub one_id : PlanData → ℕ → List ℕ → CtrlId
one_id plan h bytes = real_id plan h (record { 0 = u32_in one.ID bytes })

-- a call on a control with a number of 32 bits; a 64-bit number and an array have no place in the struct
abbrev pub one_by : Bool → FhId → List ℕ → CtrlId → Bool → Meaning
one_by sets fh bytes id true = asking_list (one_ask sets fh (one_entry id bytes)) (one_told bytes)
one_by sets fh bytes id false = refused (errno_number EINVAL) bytes

-- a list of one entry about the present values
abbrev pub one_call : Bool → PlanData → ℕ → FhId → List ℕ → Meaning
one_call sets plan h fh bytes = one_by sets fh bytes (one_id plan h bytes) (is_narrow (form_by_id plan h (one_id plan h bytes)))

-- Lists.

abbrev pub list_ask : Access → FhId → ℕ → Option RequestId → List ExtControl → Ask
list_ask Get fh which request list = asks.GetCtrls fh which request list
list_ask Set fh which request list = asks.SetCtrls fh which request list
list_ask Try fh which request list = asks.TryCtrls fh which request list

abbrev pub is_write : Access → Bool
is_write Get = false
is_write _ = true

-- how many entries are read of a list that names so many
abbrev pub read_count : List ℕ → ℕ
read_count bytes = min (u32_in head.COUNT bytes) MOST_ENTRIES

-- the index of a refusal; as many entries as were read are the whole list
abbrev pub index_told : List ℕ → Option ℕ → ℕ
index_told bytes None = u32_in head.COUNT bytes
index_told bytes (Some index) = if nat_lt index (read_count bytes) then index else u32_in head.COUNT bytes

-- what a list is told that is refused
abbrev pub fault_told : List ℕ → Fault → Told
fault_told bytes fault = (errno_number fault.errno, with_u32 head.ERROR_IDX (index_told bytes fault.index) bytes)

-- what a list of entries of these forms is told; the index of an accepted one is its last entry, as a kernel leaves it, and 0 where it has none
abbrev pub list_told : List Form → List ℕ → Answer → Told
list_told forms bytes (Ok (Controls list)) = (0, with_u32 head.ERROR_IDX (u32_in head.COUNT bytes - 1) (with_values forms 0 list bytes))
list_told forms bytes (Ok reply) = (NO_CALL, bytes)
list_told forms bytes (Err fault) = fault_told bytes fault

-- the errno of a payload that can't be taken: a get is told that there is no room for it
abbrev pub wrong_errno : Access → PayloadFault → ℕ
wrong_errno Get TooSmall = errno_number ENOSPC
wrong_errno _ fault = CUT

-- the index of such a refusal: of a try the entry, else the number of entries
abbrev pub wrong_index : Access → ℕ → List ℕ → ℕ
wrong_index Try place bytes = place
wrong_index _ place bytes = u32_in head.COUNT bytes

-- a get is told how many bytes the payload of an entry without room has
abbrev pub with_wanted_size : Form → ℕ → List ℕ → List ℕ
with_wanted_size (Array elems) place bytes = with_size place elems bytes
with_wanted_size _ place bytes = bytes

abbrev pub with_wrong_size : List Form → Access → ℕ → List ℕ → List ℕ
with_wrong_size forms Get place bytes = with_wanted_size (form_at forms place) place bytes
with_wrong_size forms _ place bytes = bytes

-- what a list is told whose payload can't be taken
abbrev pub wrong_told : List Form → Access → List ℕ → Wrong → Told
wrong_told forms access bytes wrong =
    (wrong_errno access wrong.1, with_u32 head.ERROR_IDX (wrong_index access wrong.0 bytes) (with_wrong_size forms access wrong.0 bytes))

-- The payload that refuses a list: none where nothing is wrong with them, or where something else refuses it before.
abbrev pub refusing : Verdicts → SessionData → List ℕ → Ask → Option Wrong → Option Wrong
refusing verdicts session bytes ask None = None
refusing verdicts session bytes ask (Some wrong) =
    if stands_before (refusal_in verdicts session ask) wrong (first_of_control (read_count bytes) bytes wrong.0) then None else Some wrong

-- A list is asked of the device, unless a payload refuses it.
abbrev pub list_by : List Form → Access → List ℕ → Ask → Option Wrong → Meaning
list_by forms access bytes ask None = asking_list ask (list_told forms bytes)
list_by forms access bytes ask (Some wrong) = record {
  asks = [];
  told = λ answers. wrong_told forms access bytes wrong;
  short = Some (list_told forms bytes without_room);
}

-- the ask of a list
abbrev pub whole_ask : List Form → FhId → Option RequestId → Access → List ℕ → Ask
whole_ask forms fh request access bytes = list_ask access fh (u32_in head.WHICH bytes) request (entries_in forms bytes)

-- a list with entries of these forms
abbrev pub formed_list : Verdicts → SessionData → List Form → FhId → Option RequestId → Access → List ℕ → Meaning
formed_list verdicts session forms fh request access bytes =
    let ask = whole_ask forms fh request access bytes in
    list_by forms access bytes ask (refusing verdicts session bytes ask (wrong_payload forms (is_write access) bytes))

-- a list whose head, entries and slots are there
abbrev pub whole_list : Verdicts → SessionData → ℕ → FhId → Option RequestId → Access → List ℕ → Meaning
whole_list verdicts session h fh request access bytes =
    formed_list verdicts session (forms_in (plan_in session) h (read_count bytes) bytes) fh request access bytes

-- A list that names more entries than any may have is refused before anything else of it is looked at; so its index stays as it was.
abbrev pub list_call : Verdicts → SessionData → ℕ → FhId → Option RequestId → Access → List ℕ → Meaning
list_call verdicts session h fh request access bytes =
    if nat_lt (length bytes) head.SIZE then refused CUT bytes
    else if nat_lt V4L2_CID_MAX_CTRLS (u32_in head.COUNT bytes) then refused (errno_number EINVAL) bytes
    else sized (list_size (read_count bytes)) bytes (whole_list verdicts session h fh request access bytes)

-- Events.

-- an errno alone is told
abbrev pub errno_told : List ℕ → Answer → Told
errno_told bytes answer = (errno_in answer, bytes)

-- the flags of a subscription: a heading has nothing to tell at once
abbrev pub flags_for : CtrlId → Option Control → ℕ → ℕ
flags_for id None flags = flags
flags_for id (Some ctrl) flags = if is_heading id ctrl.flags then bit_and flags ALLOW_FEEDBACK.0 else flags

-- the ask for a subscription
abbrev pub subscribe_ask : PlanData → ℕ → FhId → List ℕ → Ask
subscribe_ask plan h fh bytes =
    let id : CtrlId = record { 0 = u32_in subscription.ID bytes } in
    asks.Subscribe fh id (record { 0 = flags_for id (shown plan h id) (u32_in subscription.FLAGS bytes) })

-- only the events of controls can be subscribed to
abbrev pub subscribe_call : PlanData → ℕ → FhId → List ℕ → Meaning
subscribe_call plan h fh bytes =
    if u32_in subscription.TYPE bytes == calls.V4L2_EVENT_CTRL then asks_one (subscribe_ask plan h fh bytes) (errno_told bytes) else refused (errno_number EINVAL) bytes

-- the controls that a file handle is subscribed to, in the order of their numbers
abbrev pub subscribed_controls : DeviceData → FhId → List ℕ
subscribed_controls device fh = filter (λ c. is_some (subscribed (past device.steps) fh c)) (range_with_len 0 (length device.plan.controls))

-- the errno of the last answer
abbrev pub last_errno : List Answer → ℕ
last_errno [] = 0
last_errno (answer ∷ []) = errno_in answer
last_errno (answer ∷ rest) = last_errno rest

abbrev pub unsubscribe_ask : PlanData → FhId → ℕ → Ask
unsubscribe_ask plan fh c = asks.Unsubscribe fh (control plan c).id

-- each subscription is ended
abbrev pub ending_all : PlanData → FhId → List ℕ → List ℕ → Meaning
ending_all plan fh controls bytes = record { asks = map (unsubscribe_ask plan fh) controls; told = λ answers. (last_errno answers, bytes); short = None }

-- Nobody is subscribed to events of other types, so that there is nothing to end.
abbrev pub unsubscribe_call : SessionData → FhId → List ℕ → Meaning
unsubscribe_call session fh bytes =
    if u32_in subscription.TYPE bytes == calls.V4L2_EVENT_CTRL
    then asks_one (asks.Unsubscribe fh (record { 0 = u32_in subscription.ID bytes })) (errno_told bytes)
    else if u32_in subscription.TYPE bytes == calls.V4L2_EVENT_ALL
    then ending_all (plan_in session) fh (subscribed_controls session.device fh) bytes
    else refused 0 bytes

-- what is told of an event that was taken
abbrev pub taken_told : List ℕ → Answer → Told
taken_told bytes (Ok (Event e)) = (0, event_told e)
taken_told bytes (Ok reply) = (NO_CALL, bytes)
taken_told bytes (Err fault) = (errno_number fault.errno, bytes)

abbrev pub take_call : FhId → List ℕ → Meaning
take_call fh bytes = asks_one (asks.Take fh) (taken_told bytes)

-- The call with a number on an open file handle, whose handler is h.
abbrev pub call_on : Verdicts → SessionData → (CtrlInfo → List ℕ) → ℕ → FhId → Option RequestId → ℕ → List ℕ → Meaning
call_on verdicts session name h fh request number bytes =
    let plan = plan_in session in
    if number == calls.VIDIOC_QUERYCTRL then sized query.SIZE bytes (query_call plan h (λ info. queryctrl info (name info)) fh bytes)
    else if number == calls.VIDIOC_QUERY_EXT_CTRL then sized ext.SIZE bytes (query_call plan h (λ info. query_ext_ctrl info (name info)) fh bytes)
    else if number == calls.VIDIOC_QUERYMENU then sized menu.SIZE bytes (menu_call plan h fh bytes)
    else if number == calls.VIDIOC_G_CTRL then sized one.SIZE bytes (one_call false plan h fh bytes)
    else if number == calls.VIDIOC_S_CTRL then sized one.SIZE bytes (one_call true plan h fh bytes)
    else if number == calls.VIDIOC_G_EXT_CTRLS then list_call verdicts session h fh request Get bytes
    else if number == calls.VIDIOC_S_EXT_CTRLS then list_call verdicts session h fh request Set bytes
    else if number == calls.VIDIOC_TRY_EXT_CTRLS then list_call verdicts session h fh request Try bytes
    else if number == calls.VIDIOC_SUBSCRIBE_EVENT then sized subscription.SIZE bytes (subscribe_call plan h fh bytes)
    else if number == calls.VIDIOC_UNSUBSCRIBE_EVENT then sized subscription.SIZE bytes (unsubscribe_call session fh bytes)
    else if number == calls.VIDIOC_DQEVENT then sized event.SIZE bytes (take_call fh bytes)
    else refused NO_CALL bytes

-- a call through any file handle: one that isn't open is refused first
abbrev pub call_by : Verdicts → SessionData → (CtrlInfo → List ℕ) → FhId → Option RequestId → ℕ → List ℕ → Option ℕ → Meaning
call_by verdicts session name fh request number bytes None = refused (errno_number EBADF) bytes
call_by verdicts session name fh request number bytes (Some h) = call_on verdicts session name h fh request number bytes

-- The call with a number.
abbrev pub call_of : Verdicts → SessionData → (CtrlInfo → List ℕ) → FhId → Option RequestId → ℕ → List ℕ → Meaning
call_of verdicts session name fh request number bytes = call_by verdicts session name fh request number bytes (handler_of (past session.device.steps) fh)

-- Asks are asked one after another, until one is refused; each has its answer.
abbrev pub AskedInTurn : Verdicts → SessionData → List Ask → List Answer → SessionData → Type 0
AskedInTurn verdicts old [] [] new = new ≡ old
AskedInTurn verdicts old (ask ∷ rest) (Ok reply ∷ answers) new =
    (between : SessionData) × Asked verdicts old between ask (Ok reply) × AskedInTurn verdicts between rest answers new
AskedInTurn verdicts old (ask ∷ rest) (Err fault ∷ []) new = Asked verdicts old new ask (Err fault)
AskedInTurn verdicts old _ _ new = ⊥

-- Subscriptions to controls are ended one after another, until that isn't done; the errno of the last answer.
abbrev pub EndedInTurn : Verdicts → SessionData → FhId → List ℕ → SessionData → ℕ → Type 0
EndedInTurn verdicts old fh controls new errno =
    (answers : List Answer) × AskedInTurn verdicts old (map (unsubscribe_ask (plan_in old) fh) controls) answers new × (errno ≡ last_errno answers)

-- What a call does from a session on: its asks are asked in turn, and it is told what their answers say; or there was no room for them, and nothing was asked.
abbrev pub CallsFrom : Verdicts → SessionData → Meaning → SessionData → Told → Type 0
CallsFrom verdicts start meaning new told =
    ((answers : List Answer) × AskedInTurn verdicts start meaning.asks answers new × (told ≡ meaning.told answers))
    ⊎ ((new ≡ start) × (meaning.short ≡ Some told))

-- What a call does: that, from the session as it is; or, where the session itself needs room for its asks, from one that was asked what would refuse them, which leaves other
-- counts of its device's last call.
abbrev pub Calls : Verdicts → SessionData → Meaning → SessionData → Told → Type 0
Calls verdicts old meaning new told =
    ((answers : List Answer) × AskedInTurn verdicts old meaning.asks answers new × (told ≡ meaning.told answers))
    ⊎ ((new ≡ old) × (meaning.short ≡ Some told))
    ⊎ ((start : SessionData) × Stays old start × (is_some meaning.short ≡ true) × CallsFrom verdicts start meaning new told)
