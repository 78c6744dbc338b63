-- The elements of an array of bytes.
use Rattle.std.specs.Prelude.{ℕ, ◌-◌, ◌≤◌, ◌≡◌, List, ◌++◌, length, take, drop, replicate}
use Rattle.std.proofs.Common.{arith}
use Rattle.std.proofs.lemmas.List.{take-append-drop, length-take-le}
use Rattle.ctrl_types.specs.declared.bytes.ByteRow.TheInside.{Inside}

-- the bytes in use
abbrev pub bytes_of : Inside → List ℕ
bytes_of a = take a.len a.cells

-- there are 32 cells, and those behind the bytes are zero
pub record IsCleared (a : Inside) : Type 0 where
  pub cells : length a.cells ≡ 32
  pub within : a.len ≤ 32
  pub zeros : drop a.len a.cells ≡ replicate (32 - a.len) 0

-- the cells that hold these bytes
abbrev pub cells_of : List ℕ → Inside
cells_of bytes = record { cells = bytes ++ replicate (32 - length bytes) 0; len = length bytes }

-- there are as many bytes as their count says
pub length-bytes_of : (a : Inside) → IsCleared a → length (bytes_of a) ≡ a.len
length-bytes_of a h = length-take-le a.len a.cells (omega (arith, h.within, h.cells))

-- the cells come back from the bytes
pub cells_of-bytes_of : (a : Inside) → IsCleared a → cells_of (bytes_of a) ≡ a
cells_of-bytes_of a h = rw (length-bytes_of a h, ← h.zeros, take-append-drop a.len a.cells)
