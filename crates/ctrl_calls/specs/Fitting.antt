-- Which values a row can have.
use Rattle.std.specs.Prelude.{Bool, true, false, ◌&&◌, ◌||◌, List, length, nat_le}
use Rattle.std.specs.List.{list_all}
use Rattle.ctrl_types.specs.declared.value.CtrlValue.{CtrlValue}
use Rattle.ctrl_types.specs.declared.value.CtrlValue.TheVariants.{Number, Bytes}

-- whether a value is a number
abbrev pub is_number : CtrlValue → Bool
is_number (Number v) = true
is_number (Bytes row) = false

-- whether values fit into a row: there are eight at most, and no array among others
abbrev pub fits : List CtrlValue → Bool
fits values = nat_le (length values) 8 && (nat_le (length values) 1 || list_all is_number values)
