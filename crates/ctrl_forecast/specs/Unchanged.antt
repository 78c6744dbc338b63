-- When a cluster of a queued frame comes out as it was (of this project).
use Rattle.std.specs.Prelude.{Bool, true, false, not, ◌&&◌, if◌then◌else◌, List, [], ◌∷◌}
use Rattle.ctrl_types.specs.Values.{is_same}
use Rattle.ctrl_types.specs.declared.value.CtrlValue.{CtrlValue}

-- whether two rows have the same values
abbrev pub are_same_values : List CtrlValue → List CtrlValue → Bool
are_same_values [] [] = true
are_same_values [] (w ∷ ws) = false
are_same_values (v ∷ vs) [] = false
are_same_values (v ∷ vs) (w ∷ ws) = is_same v w && are_same_values vs ws

-- whether a cluster that had a row, and was refused or not, has the same row, and is refused or not as it was
abbrev pub is_same_outcome : List CtrlValue → Bool → List CtrlValue → Bool → Bool
is_same_outcome had was_refused row is_refused = are_same_values had row && (if is_refused then was_refused else not was_refused)
