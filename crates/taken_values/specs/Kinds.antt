-- Which values a control can have, by its kind (Linux driver API, "V4L2 Controls", and Linux userspace API, "enum v4l2_ctrl_type").
use Rattle.std.specs.Prelude.{◌≡◌, ℤ, pos, ◌≤ℤ◌, unsigned_abs, bit_and, length, ◌⊎◌}
use Rattle.std.specs.Int.{bit_at}
use Rattle.std.specs.List.{All}
use Rattle.ctrl_types.specs.declared.kind.Kind.{Kind}
use Rattle.ctrl_types.specs.declared.kind.Kind.TheVariants.{Integer, Boolean, Menu, Button, Integer64, Bitmask, IntegerMenu, U8}
use Rattle.ctrl_types.specs.declared.value.CtrlValue.{CtrlValue}
use Rattle.ctrl_types.specs.declared.value.CtrlValue.TheVariants.{Number, Bytes}
use Rattle.ctrl_settle.specs.Control.{Control, elems_of}
use Rattle.ctrl_settle.specs.Grid.{IsOnGrid}

-- an index of a menu: it lies in the range, and the menu doesn't skip it
abbrev pub IsIndex : Control → ℤ → Type 0
IsIndex c v = (c.minimum ≤ℤ v) × (v ≤ℤ c.maximum) × (bit_at c.skip (unsigned_abs v) ≡ 0)

-- a bitmask of bits of the maximum alone
abbrev pub IsMask : Control → ℤ → Type 0
IsMask c v = (pos 0 ≤ℤ v) × (bit_and (unsigned_abs v) (unsigned_abs c.maximum) ≡ unsigned_abs v)

-- What a control of a kind can have as its value: of an integer a value of the grid, which ends at the maximum; of a boolean 0 or 1; of a menu an index; of a bitmask bits of the
-- maximum; of a button 0; of an array as many bytes as it has elements, each of the grid.
abbrev pub IsValueAs : Kind → Control → CtrlValue → Type 0
IsValueAs U8 c (Bytes row) = (length row ≡ elems_of c) × All (λ b. IsOnGrid c (pos b)) row
IsValueAs U8 c (Number v) = ⊥
IsValueAs kind c (Bytes row) = ⊥
IsValueAs Integer c (Number v) = IsOnGrid c v
IsValueAs Integer64 c (Number v) = IsOnGrid c v
IsValueAs Boolean c (Number v) = (v ≡ pos 0) ⊎ (v ≡ pos 1)
IsValueAs Menu c (Number v) = IsIndex c v
IsValueAs IntegerMenu c (Number v) = IsIndex c v
IsValueAs Bitmask c (Number v) = IsMask c v
IsValueAs Button c (Number v) = v ≡ pos 0

-- the same of a control, by its own kind
abbrev pub IsValueOf : Control → CtrlValue → Type 0
IsValueOf c v = IsValueAs c.kind c v
