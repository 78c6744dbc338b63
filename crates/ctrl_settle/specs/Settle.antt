-- The value that a control takes for a value asked (Linux driver API, "V4L2 Controls", and Linux userspace API,
-- "enum v4l2_ctrl_type").
use Rattle.std.specs.Prelude.{◌≡◌, ℕ, ◌^◌, ℤ, pos, ◌||◌, Option, Result, Ok, Err, bit_and, unsigned_abs, int_lt, ◌==◌, if◌then◌else◌, List, length, map, nat_eq, ◌≤ℤ◌}
use Rattle.std.specs.Int.{bit_at, int_rem_euclid}
use Rattle.std.specs.List.{All}
use Rattle.std.specs.Ordering.{int_eq}
use Rattle.std.specs.Result.{result_err}
use Rattle.ctrl_types.specs.declared.value.CtrlValue.{CtrlValue}
use Rattle.ctrl_types.specs.declared.value.CtrlValue.TheVariants.{Number, Bytes}
use Rattle.ctrl_types.specs.declared.errno.Errno.{Errno}
use Rattle.ctrl_types.specs.declared.check.Check.{Check}
use Rattle.ctrl_types.specs.declared.check.Check.TheVariants.{ValueOutsideMenu, ValueSkipped, ValueNotOfKind}
use Rattle.ctrl_types.specs.Checks.{with_errno}
use Rattle.ctrl_types.specs.declared.kind.Kind.{Kind}
use Rattle.ctrl_types.specs.declared.kind.Kind.TheVariants.{Integer, Boolean, Menu, Button, Integer64, Bitmask, IntegerMenu, U8}
use Rattle.ctrl_settle.specs.Control.{Control, default_of, elems_of}
use Rattle.ctrl_settle.specs.Grid.{nearest}

-- the low 32 bits of a number in two's complement
abbrev pub low_bits : ℤ → ℕ
low_bits v = unsigned_abs (int_rem_euclid v (pos (2 ^ 32)))

-- the bits of v that a bitmask has
abbrev pub masked : Control → ℤ → ℤ
masked c v = pos (bit_and (low_bits v) (unsigned_abs c.maximum))

-- the item v of a menu: it lies in the range, and the menu doesn't skip it
abbrev pub item : Control → ℤ → Result ℤ Check
item c v =
    if int_lt v c.minimum || int_lt c.maximum v then Err ValueOutsideMenu
    else if bit_at c.skip (unsigned_abs v) == 1 then Err ValueSkipped
    else Ok v

-- what a control of a kind, or each element of it, takes for the number v, or why it takes none
abbrev pub settle_as : Kind → Control → ℤ → Result ℤ Check
settle_as Integer c v = Ok (nearest c v)
settle_as Integer64 c v = Ok (nearest c v)
settle_as Boolean c v = Ok (if int_eq v (pos 0) then pos 0 else pos 1)
settle_as Bitmask c v = Ok (masked c v)
settle_as Button c v = Ok (pos 0)
settle_as Menu c v = item c v
settle_as IntegerMenu c v = item c v
settle_as U8 c v = Ok (nearest c v)

-- what was taken is a number
abbrev pub as_number : Result ℤ Check → Result CtrlValue Check
as_number (Ok v) = Ok (Number v)
as_number (Err check) = Err check

-- what each element of an array takes for a byte
abbrev pub settled_byte : Control → ℕ → ℕ
settled_byte c byte = unsigned_abs (nearest c (pos byte))

-- what an array takes for bytes: as many as it has elements, each settled by itself; it takes no other number of them
abbrev pub settle_bytes : Control → List ℕ → Result CtrlValue Check
settle_bytes c row = if nat_eq (length row) (elems_of c) then Ok (Bytes (map (settled_byte c) row)) else Err ValueNotOfKind

-- what a control of a kind takes for a value: an array takes bytes alone, and every other kind numbers alone
abbrev pub settle_value : Kind → Control → CtrlValue → Result CtrlValue Check
settle_value U8 c (Bytes row) = settle_bytes c row
settle_value U8 c (Number v) = Err ValueNotOfKind
settle_value kind c (Bytes row) = Err ValueNotOfKind
settle_value kind c (Number v) = as_number (settle_as kind c v)

-- the value that the control takes for another, or the errno of the check that refuses it
unfoldable pub settle : Control → CtrlValue → Result CtrlValue Errno
settle c v = with_errno (settle_value c.kind c v)

-- the check that refuses a value, where one does
unfoldable pub settle_check : Control → CtrlValue → Option Check
settle_check c v = result_err (settle_value c.kind c v)

-- the control takes v as it is
abbrev pub IsSettled : Control → CtrlValue → Type 0
IsSettled c v = settle c v ≡ Ok v

-- what was taken, or else a default
abbrev pub taken_or : CtrlValue → Result CtrlValue Errno → CtrlValue
taken_or default_value (Ok v) = v
taken_or default_value (Err errno) = default_value

-- The value that the control has for v, which may be one of another range: what it takes for v; where it takes none, its default.
abbrev pub settled_anew : Control → CtrlValue → CtrlValue
settled_anew c v = taken_or (default_of c) (settle c v)

-- a value lies within the bounds of a control, and so does each element of an array, which has as many as the control says
abbrev pub IsWithin : Control → CtrlValue → Type 0
IsWithin c (Number v) = (c.minimum ≤ℤ v) × (v ≤ℤ c.maximum)
IsWithin c (Bytes row) = (length row ≡ elems_of c) × All (λ b. (c.minimum ≤ℤ pos b) × (pos b ≤ℤ c.maximum)) row
