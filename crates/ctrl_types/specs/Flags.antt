-- Sets of control flags (Linux userspace API, "Control Flags").
use Rattle.std.specs.Prelude.{ℕ, Bool, not, ◌==◌, bit_and, bit_or}
use Rattle.ctrl_types.specs.declared.flags.Flags.{Flags}

-- the flags as bits; one that has no name is kept and means nothing
abbrev pub bits : Flags → ℕ
bits f = f.0

-- the flags of either set
abbrev pub union : Flags → Flags → Flags
union f g = record { 0 = bit_or (bits f) (bits g) }

-- whether every flag of g is in f
abbrev pub contains : Flags → Flags → Bool
contains f g = bit_and (bits f) (bits g) == bits g

-- whether the two have a flag in common
abbrev pub intersects : Flags → Flags → Bool
intersects f g = not (bit_and (bits f) (bits g) == 0)
