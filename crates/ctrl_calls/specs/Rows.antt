-- The row of a cluster: its members' values, in member order.
use Rattle.std.specs.Prelude.{◌-◌, ◌≤◌, ◌≡◌, List, ◌++◌, length, take, drop, replicate}
use Rattle.std.proofs.Common.{arith}
use Rattle.std.proofs.lemmas.List.{take-append-drop, length-take-le}
use Rattle.ctrl_types.specs.Values.{zero_value}
use Rattle.ctrl_types.specs.declared.value.CtrlValue.{CtrlValue}
use Rattle.ctrl_calls.specs.declared.row.ClusterRow.TheInside.{Inside}

-- the values in use
abbrev pub row_of : Inside → List CtrlValue
row_of a = take a.len a.cells

-- there are eight cells, and those behind the row are zero
pub record IsCleared (a : Inside) : Type 0 where
  pub eight : length a.cells ≡ 8
  pub within : a.len ≤ 8
  pub zeros : drop a.len a.cells ≡ replicate (8 - a.len) zero_value

-- the cells that hold a row
abbrev pub cells_of : List CtrlValue → Inside
cells_of row = record { cells = row ++ replicate (8 - length row) zero_value; len = length row }

-- the row is as long as its count says
pub length-row_of : (a : Inside) → IsCleared a → length (row_of a) ≡ a.len
length-row_of a h = length-take-le a.len a.cells (omega (arith, h.within, h.eight))

-- the cells come back from the row
pub cells_of-row_of : (a : Inside) → IsCleared a → cells_of (row_of a) ≡ a
cells_of-row_of a h = rw (length-row_of a h, ← h.zeros, take-append-drop a.len a.cells)
