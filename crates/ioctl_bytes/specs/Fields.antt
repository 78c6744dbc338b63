-- Fields of the structs of the control calls, in bytes: little-endian, each at its place (Linux userspace API, "Function Reference").
use Rattle.std.specs.Prelude.{ℕ, ℤ, ◌+◌, ◌++◌, List, length, take, drop, replicate, min}
use Rattle.std.specs.Int.{cast_signed, cast_unsigned, w32, w64}
use Rattle.byteorder.specs.Endian.{little_number, little_bytes}

-- the number of n bytes at a place
abbrev pub number_in : ℕ → ℕ → List ℕ → ℕ
number_in n at bytes = little_number n (drop at bytes)

-- the bytes with a part of them at a place changed, and no other
abbrev pub with_part : ℕ → List ℕ → List ℕ → List ℕ
with_part at part bytes = take at bytes ++ (part ++ drop (at + length part) bytes)

-- a field of 32 bits, without a sign and with one
abbrev pub u32_in : ℕ → List ℕ → ℕ
u32_in at bytes = number_in 4 at bytes

abbrev pub i32_in : ℕ → List ℕ → ℤ
i32_in at bytes = cast_signed w32 (number_in 4 at bytes)

abbrev pub with_u32 : ℕ → ℕ → List ℕ → List ℕ
with_u32 at x bytes = with_part at (little_bytes 4 x) bytes

-- the lowest 32 bits of a number with a sign, which are the number where it fits there
abbrev pub with_low : ℕ → ℤ → List ℕ → List ℕ
with_low at z bytes = with_part at (little_bytes 4 (cast_unsigned w64 z)) bytes

-- a field of 64 bits, without a sign and with one
abbrev pub u64_in : ℕ → List ℕ → ℕ
u64_in at bytes = number_in 8 at bytes

abbrev pub i64_in : ℕ → List ℕ → ℤ
i64_in at bytes = cast_signed w64 (number_in 8 at bytes)

abbrev pub with_u64 : ℕ → ℕ → List ℕ → List ℕ
with_u64 at x bytes = with_part at (little_bytes 8 x) bytes

abbrev pub with_i64 : ℕ → ℤ → List ℕ → List ℕ
with_i64 at z bytes = with_part at (little_bytes 8 (cast_unsigned w64 z)) bytes

-- so many bytes, all 0
abbrev pub zeros : ℕ → List ℕ
zeros n = replicate n 0

-- the bytes with a name in 32 of them: zeros, and over these as much of the name as leaves a 0 behind it
abbrev pub with_name : ℕ → List ℕ → List ℕ → List ℕ
with_name at name bytes = with_part at (take (min (length name) 31) name) (with_part at (zeros 32) bytes)
