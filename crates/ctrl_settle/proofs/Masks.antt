-- A bitmask keeps the low bits of a number in two's complement.
use Rattle.std.proofs.Common.{◌≡◌, ℕ, ◌%◌, ◌^◌, ◌<◌, ℤ, pos, negsuc, ◌≤ℤ◌, ◌<ℤ◌, FitsSigned, w64, to_z, of_z, bit_and, unsigned_abs, arith}
use Rattle.std.proofs.Math.Nat.{mod-eq_of_lt}
use Rattle.std.proofs.lemmas.Int.{ints, to_z_pos}
use Rattle.std.proofs.lemmas.Nat.{and_mod, and_le_r}
use Rattle.ctrl_settle.specs.Settle.{low_bits}

-- a mask of 32 bits sees no others
bit_and-mod : (a m : ℕ) → m < 2 ^ 32 → bit_and (a % 2 ^ 32) m ≡ bit_and a m
bit_and-mod a m small =
    let whole : bit_and a m < 2 ^ 32 = omega (arith, and_le_r a m) in
    let e = and_mod a m 32 in
    let m_whole : m % 2 ^ 32 ≡ m = mod-eq_of_lt small in
    let and_whole : bit_and a m % 2 ^ 32 ≡ bit_and a m = mod-eq_of_lt whole in
    cc

low_bits-of_z : (v : ℤ) → FitsSigned w64 v → low_bits v ≡ of_z w64 v % 2 ^ 32
low_bits-of_z (pos a) fits = omega arith
low_bits-of_z (negsuc a) fits = omega arith

of_z-unsigned_abs : (m : ℤ) → pos 0 ≤ℤ m → of_z w64 m ≡ unsigned_abs m
of_z-unsigned_abs (pos a) h = omega arith
of_z-unsigned_abs (negsuc a) h = absurd (omega (arith, ints))

-- what the code's `v & m` gives
pub bit_and-low_bits : (v m : ℤ) → FitsSigned w64 v → pos 0 ≤ℤ m → m <ℤ pos (2 ^ 32) → to_z w64 (bit_and (of_z w64 v) (of_z w64 m)) ≡ pos (bit_and (low_bits v) (unsigned_abs m))
bit_and-low_bits v m fits low high =
    let small : unsigned_abs m < 2 ^ 32 = omega (arith, ints) in
    let whole : bit_and (of_z w64 v) (unsigned_abs m) < 2 ^ 63 = omega (arith, and_le_r (of_z w64 v) (unsigned_abs m)) in
    rw (of_z-unsigned_abs m low, low_bits-of_z v fits, bit_and-mod (of_z w64 v) (unsigned_abs m) small)
    (to_z_pos w64 (bit_and (of_z w64 v) (unsigned_abs m)) whole)
