-- The hexadecimal digits of a number, and that eight places are enough for one of 32 bits.
use Rattle.std.proofs.Common.{◌≡◌, ℕ, zero, suc, ◌-◌, ◌/◌, ◌%◌, ◌^◌, ◌<◌, ◌≤◌, ◌++◌, ◌∷◌, false, cond, [], List, length, take, drop, replicate, sym, ap, ◌∙◌, ⊎_elim, arith, eq-eqb, take-append-drop, length-drop}
use borrow.Author.Tests.{ne_eqb}
use Rattle.std.proofs.lemmas.Bool.{cases_lt}
use Rattle.std.proofs.lemmas.List.{take-replicate}
use Rattle.std.specs.Fmt.{digit_glyph, digits, digits_onto}
use Rattle.script_replies.specs.Replies.{hexadecimal}

-- the last k digits of a number at most, followed by what stands behind them
abbrev pub last_digits : ℕ → ℕ → List ℕ → List ℕ
last_digits k n rest = digits_onto k 16 false n rest

abbrev pub last_digit : ℕ → ℕ
last_digit n = digit_glyph false (n % 16)

only : (k n : ℕ) (rest : List ℕ) → n / 16 ≡ 0 → last_digits (suc k) n rest ≡ last_digit n ∷ rest
only k n rest e = ap (λ t. cond t (last_digit n ∷ rest) (last_digits k (n / 16) (last_digit n ∷ rest))) (eq-eqb (n / 16) 0 e)

further : (k n : ℕ) (rest : List ℕ) → (n / 16 ≡ 0 → ⊥) → last_digits (suc k) n rest ≡ last_digits k (n / 16) (last_digit n ∷ rest)
further k n rest e = ap (λ t. cond t (last_digit n ∷ rest) (last_digits k (n / 16) (last_digit n ∷ rest))) (ne_eqb (n / 16) 0 e)

-- before the last digit stand those of what is left
pub further_digits : (k n : ℕ) (rest : List ℕ) → 0 < k → (n / 16 ≡ 0 → ⊥) → last_digits k n rest ≡ last_digits (k - 1) (n / 16) (last_digit n ∷ rest)
further_digits zero n rest some e = absurd (omega arith)
further_digits (suc k) n rest some e = further k n rest e ∙ ap (λ (j : ℕ). last_digits j (n / 16) (last_digit n ∷ rest)) {x = k} {y = suc k - 1} (omega arith)

-- more places than are needed change nothing
enough : (j k n : ℕ) (rest : List ℕ) → n < 16 ^ suc j → n < 16 ^ suc k → last_digits (suc j) n rest ≡ last_digits (suc k) n rest
enough zero k n rest p q = only zero n rest (omega arith) ∙ sym (only k n rest (omega arith))
enough (suc j) zero n rest p q = only (suc j) n rest (omega arith) ∙ sym (only zero n rest (omega arith))
enough (suc j) (suc k) n rest p q = ⊎_elim
    (λ (l : n < 16). only (suc j) n rest (omega arith) ∙ sym (only (suc k) n rest (omega arith)))
    (λ (l : 16 ≤ n). further (suc j) n rest (λ e. omega arith) ∙ enough j k (n / 16) (last_digit n ∷ rest) (omega arith) (omega arith) ∙ sym (further (suc k) n rest (λ e. omega arith)))
    (cases_lt n 16)

pub eight_are_enough : (n : ℕ) → n < 2 ^ 32 → last_digits 8 n [] ≡ hexadecimal n
unfolding digits
eight_are_enough n small = enough 7 63 n [] (omega arith) (omega arith)

-- digits that end where eight places of zeros do
pub filled : (room ds : List ℕ) (at : ℕ) → at ≤ 8 → length room ≡ 8 → drop at room ≡ ds → take at room ≡ take at (replicate 8 48) → room ≡ replicate (8 - length ds) 48 ++ ds
filled room ds at within size written before =
    let long : 8 - length ds ≡ at = omega (arith, ap length written, length-drop at room) in
    let zeros : take at room ≡ replicate at 48 = before ∙ take-replicate at 8 48 within in
    rw (long, ← zeros, ← written) (sym (take-append-drop at room))
