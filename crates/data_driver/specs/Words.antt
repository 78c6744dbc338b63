-- What is told of a row, the values of a cluster's members (Linux driver API, "V4L2 Controls", "Adding Notify Callbacks"; that a word is
-- answered, and which, is of this project).
use Rattle.std.specs.Prelude.{ℕ, ◌+◌, ◌*◌, ◌^◌, ℤ, pos, negsuc, ◌+ℤ◌, unsigned_abs, [], ◌∷◌, List, Option, None, Some}
use Rattle.std.specs.Int.{int_rem_euclid}
use Rattle.ctrl_types.specs.declared.value.CtrlValue.{CtrlValue}
use Rattle.data_driver.specs.Limits.{number_at}
use Rattle.data_driver.specs.declared.word.Word.{Word}
use Rattle.data_driver.specs.declared.word.Word.TheVariants.{Joined, Plus, Constant}

-- the low 32 bits of a number in two's complement
abbrev pub low_bits : ℤ → ℕ
low_bits value = unsigned_abs (int_rem_euclid value (pos (2 ^ 32)))

-- 256 times the low bits of one number and those of another; 0 where the row lacks one of them
abbrev pub joined_word : Option ℤ → Option ℤ → ℕ
joined_word (Some first) (Some second) = 256 * low_bits first + low_bits second
joined_word _ _ = 0

-- a number as a word: 0 where it's below that
abbrev pub or_zero : ℤ → ℕ
or_zero (pos word) = word
or_zero (negsuc _) = 0

-- a member's number and another; 0 where the sum is below that, or the row lacks the member's
abbrev pub plus : Option ℤ → ℤ → ℕ
plus (Some value) more = or_zero (value +ℤ more)
plus None more = 0

-- the word that is told of a row
abbrev pub word_of : Word → List CtrlValue → ℕ
word_of (Joined first second) row = joined_word (number_at row first) (number_at row second)
word_of (Plus member more) row = plus (number_at row member) more
word_of (Constant word) row = word

-- the places that a word names
abbrev pub word_places : Word → List ℕ
word_places (Joined first second) = first ∷ second ∷ []
word_places (Plus member more) = member ∷ []
word_places (Constant word) = []
