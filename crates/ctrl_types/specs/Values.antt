-- What a control has as its value (Linux userspace API, "struct v4l2_ext_control").
use Rattle.std.specs.Prelude.{ℕ, ℤ, pos, Bool, true, false, ◌&&◌, nat_eq, List, [], ◌∷◌}
use Rattle.std.specs.Ordering.{int_eq}
use Rattle.ctrl_types.specs.declared.value.CtrlValue.{CtrlValue}
use Rattle.ctrl_types.specs.declared.value.CtrlValue.TheVariants.{Number, Bytes}

-- the number 0
abbrev pub zero_value : CtrlValue
zero_value = Number (pos 0)

-- the number that a value is; 0 of an array, which has none
abbrev pub number_of : CtrlValue → ℤ
number_of (Number v) = v
number_of (Bytes row) = pos 0

-- whether two arrays have the same elements
abbrev pub are_bytes : List ℕ → List ℕ → Bool
are_bytes [] [] = true
are_bytes (a ∷ row) (b ∷ other) = nat_eq a b && are_bytes row other
are_bytes [] (b ∷ other) = false
are_bytes (a ∷ row) [] = false

-- whether two values are the same
abbrev pub is_same : CtrlValue → CtrlValue → Bool
is_same (Number v) (Number w) = int_eq v w
is_same (Bytes row) (Bytes other) = are_bytes row other
is_same (Number v) (Bytes row) = false
is_same (Bytes row) (Number v) = false
