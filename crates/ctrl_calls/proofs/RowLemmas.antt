-- What the cells of a row say of it.
use Rattle.std.proofs.Common.{ℕ, ◌≡◌, ◌≤◌, ◌<◌, List, ◌++◌, length, take, drop, replicate, slice_set, ◌∙◌, ap, arith, length-append}
use Rattle.std.proofs.lemmas.List.{drop-replicate, length-drop, length-replicate}
use Rattle.std.proofs.Math.Seq.{drop-append_seam, take-set-lt}
use Rattle.ctrl_types.specs.Values.{zero_value}
use Rattle.ctrl_types.specs.declared.value.CtrlValue.{CtrlValue}
use Rattle.ctrl_calls.specs.declared.row.ClusterRow.TheInside.{Inside}
use Rattle.ctrl_calls.specs.Rows.{row_of, IsCleared, length-row_of}

-- values laid over the front of eight zeros have zeros behind them
pub IsCleared-append : (xs : List CtrlValue) (n : ℕ) → length xs ≡ n → n ≤ 8 → IsCleared (record { cells = xs ++ drop n (replicate 8 zero_value); len = n })
IsCleared-append xs n e most = record {
  eight = length-append xs _ ∙ omega (arith, length-drop n (replicate 8 zero_value), length-replicate 8 zero_value);
  within = most;
  zeros = rw (← e) (drop-append_seam xs _ ∙ drop-replicate (length xs) 8 zero_value);
}

-- a cell in use is a place of the row
pub take-slice_set : (a : Inside) (row : List CtrlValue) (i : ℕ) (v : CtrlValue) → IsCleared a → row_of a ≡ row → i < length row → take a.len (slice_set a.cells i v) ≡ slice_set row i v
take-slice_set a row i v h e below =
    let within : i < a.len = omega (arith, length-row_of a h, ap length e) in
    take-set-lt a.len a.cells i v within ∙ ap (λ r. slice_set r i v) e
