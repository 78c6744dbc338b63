-- The entries of a list in its call: behind the head stand the entries, and behind these a slot of 32 bytes for the payload of each (Linux userspace API, "ioctl
-- VIDIOC_G_EXT_CTRLS, VIDIOC_S_EXT_CTRLS, VIDIOC_TRY_EXT_CTRLS"; the slots are of this project: a kernel finds a payload behind its pointer).
use Rattle.std.specs.Prelude.{ℕ, ℤ, ◌+◌, ◌*◌, ◌==◌, if◌then◌else◌, nat_lt, List, length, take, drop, Result, Ok, Err}
use Rattle.ctrl_types.specs.declared.ids.CtrlId.{CtrlId}
use Rattle.ctrl_types.specs.declared.value.CtrlValue.{CtrlValue}
use Rattle.ctrl_types.specs.declared.value.CtrlValue.TheVariants as values
use Rattle.ioctl_bytes.specs.Fields.{i32_in, i64_in, u32_in, with_i64, with_low, with_part, with_u32}
use Rattle.ioctl_bytes.specs.declared.layout.v4l2_ext_controls.TheConstants as head
use Rattle.ioctl_bytes.specs.declared.layout.v4l2_ext_control.TheConstants as entry
use Rattle.call_structs.specs.declared.entries.TheConstants.{SLOT}
use Rattle.call_structs.specs.declared.entries.Form.{Form}
use Rattle.call_structs.specs.declared.entries.Form.TheVariants.{Narrow, Wide, Array}
use Rattle.call_structs.specs.declared.entries.PayloadFault.{PayloadFault}
use Rattle.call_structs.specs.declared.entries.PayloadFault.TheVariants.{TooSmall, Unreadable}

-- where the entry at a place stands, and its slot, in a list of so many entries
abbrev pub entry_start : ℕ → ℕ
entry_start place = head.SIZE + entry.SIZE * place

abbrev pub slot_start : ℕ → ℕ → ℕ
slot_start count place = head.SIZE + entry.SIZE * count + SLOT * place

-- how long a list of so many entries is
abbrev pub list_size : ℕ → ℕ
list_size count = head.SIZE + entry.SIZE * count + SLOT * count

-- the control of an entry
abbrev pub id_at : ℕ → List ℕ → CtrlId
id_at place bytes = record { 0 = u32_in (entry_start place + entry.ID) bytes }

-- an array of so many bytes, where the payload has room for it and could be read
abbrev pub array_at : ℕ → ℕ → ℕ → List ℕ → Result CtrlValue PayloadFault
array_at count elems place bytes =
    if nat_lt (u32_in (entry_start place + entry.SIZE_OF_PAYLOAD) bytes) elems then Err TooSmall
    else if u32_in (entry_start place + entry.RESERVED2) bytes == 0 then Err Unreadable
    else Ok (values.Bytes (take elems (drop (slot_start count place) bytes)))

-- the value that an entry of a form has; the error is what is wrong with its payload
abbrev pub value_at : Form → ℕ → ℕ → List ℕ → Result CtrlValue PayloadFault
value_at Narrow count place bytes = Ok (values.Number (i32_in (entry_start place + entry.VALUE) bytes))
value_at Wide count place bytes = Ok (values.Number (i64_in (entry_start place + entry.VALUE64) bytes))
value_at (Array elems) count place bytes = array_at count elems place bytes

-- an entry of an array says how many bytes its payload has
abbrev pub with_size : ℕ → ℕ → List ℕ → List ℕ
with_size place size bytes = with_u32 (entry_start place + entry.SIZE_OF_PAYLOAD) size bytes

-- a number in the field of an entry, and that there is no payload
abbrev pub with_number : Form → ℕ → ℤ → List ℕ → List ℕ
with_number Wide place z bytes = with_u32 (entry_start place + entry.RESERVED2) 0 (with_i64 (entry_start place + entry.VALUE64) z bytes)
with_number _ place z bytes = with_u32 (entry_start place + entry.RESERVED2) 0 (with_low (entry_start place + entry.VALUE) z bytes)

-- the bytes of a list with a value in the entry at a place, or in its slot
abbrev pub with_told : Form → ℕ → ℕ → CtrlValue → List ℕ → List ℕ
with_told form count place (values.Bytes row) bytes =
    with_part (slot_start count place) row (with_u32 (entry_start place + entry.RESERVED2) 1 (with_size place (length row) bytes))
with_told form count place (values.Number z) bytes = with_number form place z bytes
