-- The lines that the tool prints (of this project), as bytes.
use Rattle.std.specs.Prelude.{ℕ, ◌-◌, List, [], ◌∷◌, ◌++◌, length, replicate, Option, None, Some, Result, Ok, Err, false, codes}
use Rattle.std.specs.Fmt.{decimal, signed_decimal, digits}
use Rattle.std.specs.List.{flat_map}
use Rattle.hex.specs.Hex.{encode_lower}
use Rattle.ctrl_types.specs.declared.value.CtrlValue.{CtrlValue}
use Rattle.ctrl_types.specs.declared.value.CtrlValue.TheVariants as values
use Rattle.ctrl_types.specs.declared.kind.Kind.{Kind}
use Rattle.ctrl_types.specs.declared.kind.Kind.TheVariants.{U8}
use Rattle.ctrl_types.specs.Numbers.{errno_number, kind_number}
use Rattle.ctrl_types.specs.declared.errno.Errno.TheVariants.{ENOMEM}
use Rattle.ctrl_types.specs.declared.errno.Fault.{Fault}
use Rattle.ctrl_types.specs.declared.flags.Flags.{Flags}
use Rattle.ctrl_types.specs.declared.ids.CtrlId.{CtrlId}
use Rattle.ctrl_types.specs.declared.ids.ExtControl.{ExtControl}
use Rattle.menu_items.specs.declared.item.MenuItem.{MenuItem}
use Rattle.menu_items.specs.declared.item.MenuItem.TheVariants.{Name, Number}
use Rattle.req_book.specs.declared.state.RequestState.{RequestState}
use Rattle.req_book.specs.declared.state.RequestState.TheVariants.{Idle, Queued, Running, Complete}
use Rattle.device_history.specs.declared.info.CtrlInfo.{CtrlInfo}
use Rattle.ctrl_events.specs.declared.event.Event.{Event}
use Rattle.device_history.specs.declared.ask.Ask.{Ask}
use Rattle.device_history.specs.declared.ask.Ask.TheVariants as asks
use Rattle.device_history.specs.declared.ask.Reply.{Reply}
use Rattle.device_history.specs.declared.ask.Reply.TheVariants.{Fh, Done, Controls, Request, State, Frame, Info, Id, Item, Word}
use Rattle.device_history.specs.declared.ask.Reply.TheVariants as replies
use Rattle.script_replies.specs.declared.audited.Audited.{Audited}
use Rattle.script_replies.specs.declared.audited.Audited.TheVariants.{Equal, Differs}
use Rattle.script_replies.specs.declared.audited.Audited.TheVariants as audited
use Rattle.script_replies.specs.declared.outcome.Outcome.{Outcome}
use Rattle.script_replies.specs.declared.outcome.Outcome.TheVariants.{Finished, BadLine, TooLong, ReadFault, WriteFault, NoSecond, Memory}

-- a value behind a space: a decimal number, or of an array `x` and two hexadecimal digits of lower case for each element
abbrev pub value_text : CtrlValue → List ℕ
value_text (values.Number value) = 32 ∷ signed_decimal value
value_text (values.Bytes row) = codes " x" ++ encode_lower row

-- the value of an entry of a list
abbrev pub entry_text : ExtControl → List ℕ
entry_text entry = value_text entry.value

-- a refusal: its number, and its index where it has one
abbrev pub refusal_line : ℕ → Option ℕ → List ℕ
refusal_line number None = codes "error " ++ (decimal number ++ codes "\n")
refusal_line number (Some index) = codes "error " ++ (decimal number ++ (codes " index " ++ (decimal index ++ codes "\n")))

-- a number in hexadecimal, in lower case
abbrev pub hexadecimal : ℕ → List ℕ
hexadecimal n = digits 16 false n

-- an id: its eight hexadecimal digits
abbrev pub id_text : CtrlId → List ℕ
id_text id = codes "0x" ++ (replicate (8 - length (hexadecimal id.0)) 48 ++ hexadecimal id.0)

-- flags: the hexadecimal digits of their bits, without zeros before them
abbrev pub flags_text : Flags → List ℕ
flags_text flags = codes "0x" ++ hexadecimal flags.0

-- the number of a control's kind, its bounds, its step and its default
abbrev pub range_text : CtrlInfo → List ℕ
range_text info = codes " kind " ++ (decimal (kind_number info.kind) ++ (codes " min " ++ (signed_decimal info.minimum
    ++ (codes " max " ++ (signed_decimal info.maximum ++ (codes " step " ++ (decimal info.step
    ++ (codes " default " ++ (signed_decimal info.default_value ++ codes " flags ")))))))))

-- how many elements an array has; of the other kinds nothing is said
abbrev pub elems_text : Kind → ℕ → List ℕ
elems_text U8 elems = codes " elems " ++ decimal elems
elems_text _ elems = []

-- the flags of a control, of an array its elements, and the end of the line
abbrev pub ending_text : CtrlInfo → List ℕ
ending_text info = flags_text info.flags ++ (elems_text info.kind info.elems ++ codes "\n")

-- what a control is like
abbrev pub info_line : CtrlInfo → List ℕ
info_line info = codes "ok " ++ (id_text info.id ++ (range_text info ++ ending_text info))

-- an item of a menu: its name, or its number
abbrev pub item_text : MenuItem → List ℕ
item_text (Name name) = name
item_text (Number number) = signed_decimal number

-- the state of a request
abbrev pub state_line : RequestState → List ℕ
state_line Idle = codes "ok idle\n"
state_line Queued = codes "ok queued\n"
state_line Running = codes "ok running\n"
state_line Complete = codes "ok complete\n"

-- An event that was taken: its control, what changed as one number, the value and the flags that it tells, its number, and how many still wait.
abbrev pub event_line : Event → List ℕ
event_line event = codes "event " ++ (id_text event.id ++ (codes " changes " ++ (decimal event.changes.0
    ++ (codes " value " ++ (signed_decimal event.value ++ (codes " flags " ++ (flags_text event.flags
    ++ (codes " sequence " ++ (decimal event.sequence ++ (codes " pending " ++ (decimal event.pending ++ codes "\n")))))))))))

-- a number behind a comma
abbrev pub further_text : ℕ → List ℕ
further_text cluster = 44 ∷ decimal cluster

-- numbers of clusters, joined by commas; where there is none, `-`
abbrev pub clusters_text : List ℕ → List ℕ
clusters_text [] = codes "-"
clusters_text (first ∷ more) = decimal first ++ flat_map further_text more

-- a frame that was begun: its buffer, and the clusters that were refused
abbrev pub frame_line : ℕ → List ℕ → List ℕ
frame_line buffer refused = codes "ok buffer " ++ (decimal buffer ++ (codes " refused " ++ (clusters_text refused ++ codes "\n")))

-- what a queued frame will have: its place in the queue, its buffer, the clusters that will be refused, and the values of all controls
abbrev pub forecast_line : ℕ → ℕ → List ℕ → List CtrlValue → List ℕ
forecast_line place buffer refused values = codes "frame " ++ (decimal place ++ (codes " buffer " ++ (decimal buffer
    ++ (codes " refused " ++ (clusters_text refused ++ (codes " values" ++ (flat_map value_text values ++ codes "\n")))))))

-- no frame is queued
abbrev pub no_frames_line : List ℕ
no_frames_line = codes "no frames\n"

-- the place in the queue that an ask names; 0 where it names none
abbrev pub place_of : Ask → ℕ
place_of (asks.Forecast place) = place
place_of _ = 0

-- the line of a reply to an ask
abbrev pub line_of : Ask → Reply → List ℕ
line_of ask (Fh fh) = codes "ok\n"
line_of ask Done = codes "ok\n"
line_of ask (Controls list) = codes "ok" ++ (flat_map entry_text list ++ codes "\n")
line_of ask (Request request) = codes "ok\n"
line_of ask (State state) = state_line state
line_of ask (Frame request buffer refused) = frame_line buffer refused
line_of ask (replies.Forecast row) = forecast_line (place_of ask) row.buffer row.refused row.values
line_of ask (replies.Event event) = event_line event
line_of ask (Info info) = info_line info
line_of ask (Id id) = codes "ok " ++ (id_text id ++ codes "\n")
line_of ask (Item item) = codes "ok " ++ (item_text item ++ codes "\n")
line_of ask (Word word) = codes "ok " ++ (decimal word ++ codes "\n")

-- the line of an answer to an ask
abbrev pub answer_line : Ask → Result Reply Fault → List ℕ
answer_line ask (Ok reply) = line_of ask reply
answer_line ask (Err fault) = refusal_line (errno_number fault.errno) fault.index

-- the line of an audit: how many steps the device has where it agrees; want of memory as a refusal
abbrev pub audit_line : Audited → List ℕ
audit_line (Equal count) = codes "audit equal " ++ (decimal count ++ codes "\n")
audit_line Differs = codes "audit differs\n"
audit_line audited.Memory = refusal_line (errno_number ENOMEM) None

-- a line behind the number of the script whose it is
abbrev pub numbered_line : ℕ → List ℕ → List ℕ
numbered_line script line = decimal script ++ (codes " " ++ line)

-- how many steps of each of two scripts were accepted
abbrev pub accepted_line : ℕ → ℕ → List ℕ
accepted_line first second = codes "accepted " ++ (decimal first ++ (codes " " ++ (decimal second ++ codes "\n")))

-- the line of an outcome; some print none
abbrev pub outcome_line : Outcome → List ℕ
outcome_line Finished = []
outcome_line (BadLine number) = codes "line " ++ (decimal number ++ codes ": not a command\n")
outcome_line TooLong = codes "input too long\n"
outcome_line ReadFault = codes "read fault\n"
outcome_line WriteFault = []
outcome_line NoSecond = codes "no second script\n"
outcome_line Memory = codes "no memory\n"

-- the status that the tool ends with after an outcome
abbrev pub status_of : Outcome → ℕ
status_of Finished = 0
status_of (BadLine number) = 1
status_of TooLong = 1
status_of ReadFault = 1
status_of WriteFault = 1
status_of NoSecond = 1
status_of Memory = 1
