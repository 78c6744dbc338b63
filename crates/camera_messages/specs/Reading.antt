-- The message that bytes are (of this project).
use Rattle.std.specs.Prelude.{◌≡◌, ◌⊎◌, ◌<◌, ◌≤◌, ◌==◌, ℕ, if◌then◌else◌, List, length, drop, Option, None, Some}
use Rattle.std.specs.Borrow.{Bor}
use Rattle.std.specs.Option.{option_map}
use Rattle.ctrl_types.specs.declared.ids.FhId.{FhId}
use Rattle.ctrl_types.specs.declared.ids.RequestId.{RequestId}
use Rattle.ioctl_bytes.specs.Fields.{u32_in}
use Rattle.camera_messages.specs.declared.message.Message.{Message}
use Rattle.camera_messages.specs.declared.message.Message.TheVariants as messages
use Rattle.camera_messages.specs.declared.message.Numbers.{Numbers}
use Rattle.camera_messages.specs.declared.message.TheConstants.{HEAD, NONE}

-- the four numbers in front of a payload
abbrev pub head_numbers : List ℕ → Numbers
head_numbers bytes = record { what = u32_in 0 bytes; a = u32_in 4 bytes; b = u32_in 8 bytes; c = u32_in 12 bytes }

-- what a number names, where it names something
abbrev pub named : ℕ → Option ℕ
named number = if number == NONE then None else Some number

abbrev pub as_fh : ℕ → FhId
as_fh number = record { 0 = number }

abbrev pub as_request : ℕ → RequestId
as_request number = record { 0 = number }

-- a message without a payload
abbrev pub bare_message : Numbers → Option Message
bare_message numbers =
    if numbers.what == 1 then Some (messages.Open (named numbers.a))
    else if numbers.what == 2 then Some (messages.Close (as_fh numbers.a))
    else if numbers.what == 4 then Some messages.Alloc
    else if numbers.what == 5 then Some (messages.Free (as_request numbers.a))
    else if numbers.what == 6 then Some (messages.AddBuffer (as_request numbers.a) numbers.b)
    else if numbers.what == 7 then Some (messages.Queue (as_request numbers.a))
    else if numbers.what == 8 then Some (messages.Reinit (as_request numbers.a))
    else if numbers.what == 9 then Some messages.Begin
    else if numbers.what == 10 then Some messages.Complete
    else if numbers.what == 11 then Some messages.StreamOff
    else if numbers.what == 12 then Some (messages.State (as_request numbers.a))
    else if numbers.what == 13 then Some (messages.Forecast numbers.a)
    else if numbers.what == 14 then Some messages.Controls
    else if numbers.what == 15 then Some messages.Values
    else if numbers.what == 16 then Some (messages.Waits (as_fh numbers.a))
    else if numbers.what == 18 then Some messages.Why
    else if numbers.what == 19 then Some messages.Renew
    else if numbers.what == 20 then Some messages.Counts
    else if numbers.what == 21 then Some (messages.Events (as_fh numbers.a))
    else None

-- a message with a payload, which only a control call and a line of a script take
abbrev pub message_by : Numbers → Bor (List ℕ) → Option Message
message_by numbers payload =
    if numbers.what == 3 then Some (messages.Call (as_fh numbers.a) (option_map as_request (named numbers.b)) numbers.c payload)
    else if numbers.what == 17 then Some (messages.Line payload)
    else if length payload.now == 0 then bare_message numbers
    else None

-- Bytes are read as a message: by their numbers, and what stands behind these as its payload. Too few bytes are none.
abbrev pub IsReadAs : List ℕ → Option Message → Type 0
IsReadAs bytes read =
    ((length bytes < HEAD) × (read ≡ None))
    ⊎ ((HEAD ≤ length bytes) × ((payload : Bor (List ℕ)) × (payload.now ≡ drop HEAD bytes) × (read ≡ message_by (head_numbers bytes) payload)))
