-- The table of a desk has three words, and one slot.
use Rattle.std.proofs.Common.{◌≡◌, ℕ, ◌<◌, arith}

pub has_turn : (words : ℕ) → words ≡ 3 → 0 < words
has_turn words three = omega arith

pub has_front : (words : ℕ) → words ≡ 3 → 1 < words
has_front words three = omega arith

pub has_seats : (words : ℕ) → words ≡ 3 → 2 < words
has_seats words three = omega arith

pub has_slot : (slots : ℕ) → slots ≡ 1 → 0 < slots
has_slot slots one = omega arith
