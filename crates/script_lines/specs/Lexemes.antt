-- The words of a script (of this project): numbers and ids, over their bytes.
use Rattle.std.specs.Prelude.{ℕ, ◌^◌, ◌&&◌, nat_lt, nat_le, ℤ, pos, neg_ℤ, if◌then◌else◌, List, length, take, drop, Option, None, Some, codes}
use Rattle.std.specs.Char.{is_digit}
use Rattle.std.specs.List.{list_all}
use Rattle.std.specs.Option.{option_map, option_and_then, option_or}
use Rattle.std.specs.Result.{result_ok}
use Rattle.std.specs.Str.{bytes_eq}
use Rattle.std.specs.Str.Parse.{digits_value}
use Rattle.hex.specs.Hex.{decode_of}
use Rattle.ctrl_types.specs.declared.ids.CtrlId.{CtrlId}
use Rattle.ctrl_types.specs.declared.value.CtrlValue.{CtrlValue}
use Rattle.ctrl_types.specs.declared.value.CtrlValue.TheVariants.{Number, Bytes}
use Rattle.script_lines.specs.ControlWords.{ControlWord, known_id}

-- The number that at least one digit and at most `most` of them write.
abbrev pub numeral : ℕ → ℕ → List ℕ → Option ℕ
numeral radix most word =
    if nat_lt 0 (length word) && nat_le (length word) most && list_all (λ c. is_digit c radix) word
    then Some (digits_value radix word)
    else None

-- what stands behind a text, where the word begins with it
abbrev pub after : List ℕ → List ℕ → Option (List ℕ)
after text word = if bytes_eq (take (length text) word) text then Some (drop (length text) word) else None

-- a number of 32 bits, of 64 bits, of 64 bits with a sign
abbrev pub as_u32 : ℕ → Option ℕ
as_u32 n = if nat_lt n (2 ^ 32) then Some n else None

abbrev pub as_u64 : ℕ → Option ℕ
as_u64 n = if nat_lt n (2 ^ 64) then Some n else None

abbrev pub as_positive : ℕ → Option ℤ
as_positive n = if nat_lt n (2 ^ 63) then Some (pos n) else None

abbrev pub as_negative : ℕ → Option ℤ
as_negative n = if nat_le n (2 ^ 63) then Some (neg_ℤ (pos n)) else None

-- a decimal number of 32 bits: 1 to 10 digits
abbrev pub decimal_u32 : List ℕ → Option ℕ
decimal_u32 word = option_and_then as_u32 (numeral 10 10 word)

-- a decimal number of 64 bits without a sign: 1 to 20 digits
abbrev pub decimal_u64 : List ℕ → Option ℕ
decimal_u64 word = option_and_then as_u64 (numeral 10 20 word)

-- a decimal number of 64 bits: 1 to 19 digits, with a `-` before them or not
abbrev pub signed_numeral : Option (List ℕ) → List ℕ → Option ℤ
signed_numeral (Some digits) word = option_and_then as_negative (numeral 10 19 digits)
signed_numeral None word = option_and_then as_positive (numeral 10 19 word)

abbrev pub decimal_i64 : List ℕ → Option ℤ
decimal_i64 word = signed_numeral (after (codes "-") word) word

-- the number of an id: `0x` and 1 to 8 hexadecimal digits of either case
abbrev pub hexadecimal_u32 : List ℕ → Option ℕ
hexadecimal_u32 word = option_and_then (numeral 16 8) (after (codes "0x") word)

-- the bytes of two hexadecimal digits each, of either case: 1 to 32 of them
abbrev pub pairs_of_digits : List ℕ → Option (List ℕ)
pairs_of_digits digits = if nat_lt 0 (length digits) && nat_le (length digits) 64 then result_ok (decode_of digits) else None

-- the elements of an array: `x`, and two digits for each
abbrev pub elements : List ℕ → Option (List ℕ)
elements word = option_and_then pairs_of_digits (after (codes "x") word)

-- a value: the elements of an array, or a decimal number of 64 bits
abbrev pub value_of : List ℕ → Option CtrlValue
value_of word = option_or (option_map Bytes (elements word)) (option_map Number (decimal_i64 word))

-- the id that a word names a control by: that of a known word, or the id itself
abbrev pub control_id : List ControlWord → List ℕ → Option CtrlId
control_id known word = option_or (known_id known word) (option_map (λ n. record { 0 = n }) (hexadecimal_u32 word))
