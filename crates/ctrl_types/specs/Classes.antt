-- Control classes (`V4L2_CTRL_ID2CLASS`), and what the field `which` of a control list means (Linux userspace API, "struct
-- v4l2_ext_controls"; that no bit is masked off is of this project).
use Rattle.std.specs.Prelude.{ℕ, ◌==◌, if◌then◌else◌, bit_and, Result, Ok, Err}
use Rattle.ctrl_types.specs.declared.check.Check.{Check}
use Rattle.ctrl_types.specs.declared.check.Check.TheVariants.{WhichUnknown}
use Rattle.ctrl_types.specs.declared.which.Which.{Which}
use Rattle.ctrl_types.specs.declared.which.Which.TheVariants.{Current, Defaults, Class, Request}

-- the class that a control's id lies in
abbrev pub class_of : ℕ → ℕ
class_of id = bit_and id 0x0fff0000

-- What `which` stands for: 0 the present values, 0x0f000000 the defaults, 0x0f010000 those of a request,
-- and any other number that is its own class that class. No bit is masked off: other numbers are refused.
abbrev pub which_of : ℕ → Result Which Check
which_of n =
    if n == 0 then Ok Current
    else if n == 0x0f000000 then Ok Defaults
    else if n == 0x0f010000 then Ok Request
    else if class_of n == n then Ok (Class n)
    else Err WhichUnknown
