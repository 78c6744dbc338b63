-- The names that a control's table may give (Linux userspace API, "enum v4l2_ctrl_type" and "Control Flags").
use Rattle.std.specs.Prelude.{ℕ, List, Option, Some, None, codes, if◌then◌else◌}
use Rattle.std.specs.Str.{bytes_eq}
use Rattle.ctrl_types.specs.declared.kind.Kind.{Kind}
use Rattle.ctrl_types.specs.declared.kind.Kind.TheVariants.{Integer, Boolean, Menu, Button, Integer64, Bitmask, IntegerMenu, U8}

-- the type that a text names
abbrev pub kind_named : List ℕ → Option Kind
kind_named text =
    if bytes_eq text (codes "integer") then Some Integer
    else if bytes_eq text (codes "boolean") then Some Boolean
    else if bytes_eq text (codes "menu") then Some Menu
    else if bytes_eq text (codes "button") then Some Button
    else if bytes_eq text (codes "integer64") then Some Integer64
    else if bytes_eq text (codes "bitmask") then Some Bitmask
    else if bytes_eq text (codes "integer_menu") then Some IntegerMenu
    else if bytes_eq text (codes "u8") then Some U8
    else None

-- the bit of the flag that a text names; SLIDER and MODIFY_LAYOUT are kept and mean nothing here
abbrev pub flag_named : List ℕ → Option ℕ
flag_named text =
    if bytes_eq text (codes "disabled") then Some 0x1
    else if bytes_eq text (codes "read_only") then Some 0x4
    else if bytes_eq text (codes "update") then Some 0x8
    else if bytes_eq text (codes "slider") then Some 0x20
    else if bytes_eq text (codes "write_only") then Some 0x40
    else if bytes_eq text (codes "execute_on_write") then Some 0x200
    else if bytes_eq text (codes "modify_layout") then Some 0x400
    else None
