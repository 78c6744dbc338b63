use Rattle.std.proofs.Common.{◌≡◌, take, true}
use Rattle.std.specs.Char.{is_digit}
use Rattle.std.specs.List.{list_all}
use Rattle.std.specs.Str.Parse.{digits_value}
use Rattle.script_lines.proofs.lexeme.numeral.Given as goal

-- the digits so far, and the number that they write
abbrev pub invariant-loop-byte : goal.invariant-loop-byte
invariant-loop-byte l = (list_all (λ c. is_digit c l.radix) (take l.byte-index l.word) ≡ true)
    × (l.number ≡ digits_value l.radix (take l.byte-index l.word))
