-- What the cells of an array say of its bytes.
use Rattle.std.proofs.Common.{ℕ, ◌≡◌, ◌≤◌, ◌<◌, List, ◌++◌, length, take, drop, replicate, slice_set, ◌∙◌, ap, sym, arith, length-append}
use Rattle.std.proofs.lemmas.List.{drop-replicate, length-drop, length-replicate, take-replicate}
use Rattle.std.proofs.Math.Seq.{drop-append_seam, take-append_seam, take-set-lt}
use Rattle.ctrl_types.specs.declared.bytes.ByteRow.TheInside.{Inside}
use Rattle.ctrl_types.specs.Bytes.{bytes_of, IsCleared, length-bytes_of}

-- bytes laid over the front of 32 zeros have zeros behind them
pub IsCleared-append : (xs : List ℕ) (n : ℕ) → length xs ≡ n → n ≤ 32 → IsCleared (record { cells = xs ++ drop n (replicate 32 0); len = n })
IsCleared-append xs n e most =
    let nothing : ℕ = 0 in
    let zeros : List ℕ = replicate 32 0 in
    record {
      cells = length-append xs _ ∙ omega (arith, length-drop n zeros, length-replicate {A = ℕ} 32 0);
      within = most;
      zeros = rw (← e) (drop-append_seam xs _ ∙ drop-replicate (length xs) 32 nothing);
    }

-- a cell in use is a place of the row
pub take-slice_set : (a : Inside) (row : List ℕ) (i : ℕ) (v : ℕ) → IsCleared a → bytes_of a ≡ row → i < length row → take a.len (slice_set a.cells i v) ≡ slice_set row i v
take-slice_set a row i v h e below =
    let within : i < a.len = omega (arith, length-bytes_of a h, ap length e) in
    take-set-lt a.len a.cells i v within ∙ ap (λ r. slice_set r i v) e

-- the same byte laid over the front so many times
pub take-repeated : (xs ys : List ℕ) (n byte : ℕ) → xs ≡ take n (replicate 32 byte) → n ≤ 32 → take n (xs ++ ys) ≡ replicate n byte
take-repeated xs ys n byte is most =
    ap (λ (l : List ℕ). take n (l ++ ys)) (is ∙ take-replicate n 32 byte most)
    ∙ ap (λ (k : ℕ). take k (replicate n byte ++ ys)) (sym (length-replicate n byte))
    ∙ take-append_seam (replicate n byte) ys
