-- Values for controls by their numbers (of this project).
use Rattle.std.specs.Prelude.{ℕ, ◌==◌, if◌then◌else◌, List, [], ◌∷◌, Option, None, Some}
use Rattle.std.specs.Option.{option_or}
use Rattle.ctrl_types.specs.declared.value.CtrlValue.{CtrlValue}
use Rattle.ctrl_types.specs.declared.ids.Pair.{Pair}

-- the last value that a list of pairs gives a control
abbrev pub last_value : List Pair → ℕ → Option CtrlValue
last_value [] c = None
last_value (p ∷ pairs) c = option_or (last_value pairs c) (if p.control == c then Some p.value else None)
