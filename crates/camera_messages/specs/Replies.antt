-- What a reply is put together of, and the bytes that are answered (of this project).
use Rattle.std.specs.Prelude.{◌≡◌, ℕ, ◌+◌, Bool, true, if◌then◌else◌, min, List, [], ◌++◌, length, take, drop}
use Rattle.std.specs.Int.{cast_unsigned, w64}
use Rattle.std.specs.List.{flat_map}
use Rattle.byteorder.specs.Endian.{little_bytes}
use Rattle.ctrl_types.specs.Numbers.{errno_number}
use Rattle.ctrl_types.specs.declared.errno.Errno.TheVariants.{ENOMEM}
use Rattle.ctrl_types.specs.declared.value.CtrlValue.{CtrlValue}
use Rattle.ctrl_types.specs.declared.value.CtrlValue.TheVariants.{Bytes, Number}
use Rattle.ioctl_bytes.specs.Fields.{zeros}
use Rattle.camera_messages.specs.declared.reply_buffer.Head.{Head}

-- A reply: what stands in front of its payload, the payload, and whether all that was put there found room.
pub record ReplyData : Type 0 where
  pub head : Head
  pub payload : List ℕ
  pub is_whole : Bool

-- accepted, with three numbers
abbrev pub accepted : ℕ → ℕ → ℕ → Head
accepted x y z = record { errno = 0; x = x; y = y; z = z }

-- an errno, 0 for none, with the numbers 0
abbrev pub errno_alone : ℕ → Head
errno_alone errno = record { errno = errno; x = 0; y = 0; z = 0 }

-- a reply of that alone
abbrev pub bare : ℕ → ReplyData
bare errno = record { head = errno_alone errno; payload = []; is_whole = true }

-- Bytes were put behind the payload: where the reply is whole then, it was so before, and they stand there.
pub record Puts (old new : ReplyData) (bytes : List ℕ) : Type 0 where
  pub head : new.head ≡ old.head
  pub behind : new.is_whole ≡ true → (old.is_whole ≡ true) × (new.payload ≡ old.payload ++ bytes)

-- A reply says this, and, where it is whole, has this payload.
pub record Says (reply : ReplyData) (said : Head) (bytes : List ℕ) : Type 0 where
  pub head : reply.head ≡ said
  pub payload : reply.is_whole ≡ true → reply.payload ≡ bytes

-- a count as 32 bits; where it doesn't fit, the greatest number
abbrev pub counted : ℕ → ℕ
counted n = min n 0xffffffff

-- 32 bytes, all 0, and over these as many of others as fit
abbrev pub wide : List ℕ → List ℕ
wide bytes = take (min (length bytes) 32) bytes ++ drop (min (length bytes) 32) (zeros 32)

-- a value: how many bytes it has, and these
abbrev pub value_told : CtrlValue → List ℕ
value_told (Number z) = little_bytes 4 8 ++ wide (little_bytes 8 (cast_unsigned w64 z))
value_told (Bytes row) = little_bytes 4 (counted (length row)) ++ wide row

abbrev pub values_told : List CtrlValue → List ℕ
values_told values = flat_map value_told values

-- what stands in front of a payload: how many bytes there are behind this number, and the head
abbrev pub front : ℕ → Head → List ℕ
front count head =
    little_bytes 4 (counted count) ++ little_bytes 4 head.errno ++ little_bytes 4 head.x ++ little_bytes 4 head.y ++ little_bytes 4 head.z

-- where something found no room, it is a refusal for want of memory
abbrev pub settled : ReplyData → ReplyData
settled reply = if reply.is_whole then reply else bare (errno_number ENOMEM)

-- the bytes of a reply: its front, and the payload
abbrev pub bytes_of_reply : ReplyData → List ℕ
bytes_of_reply reply = front (16 + length reply.payload) reply.head ++ reply.payload

-- The bytes that are answered.
abbrev pub reply_bytes : ReplyData → List ℕ
reply_bytes reply = bytes_of_reply (settled reply)
