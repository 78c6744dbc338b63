-- Limits and words as relations: a number, and the four bounds that it is taken at (of this project).
use Rattle.std.specs.Prelude.{ℕ, ◌+◌, ◌^◌, ℤ, pos, negsuc, nat_lt, if◌then◌else◌, ◌==◌, [], ◌∷◌, List, Option, None, Some}
use Rattle.ctrl_calls.specs.declared.relation.Relation.{Relation}
use Rattle.data_driver.specs.Members.{place_of}
use Rattle.data_driver.specs.declared.limit.Excess.{Excess}
use Rattle.data_driver.specs.declared.limit.Excess.TheVariants.{Refused, Lowered}
use Rattle.data_driver.specs.declared.limit.Limit.{Limit}
use Rattle.data_driver.specs.declared.limit.Limit.TheVariants.{Sum, Product, AtMost, AtMostMember, AtMostWhile}
use Rattle.data_driver.specs.declared.word.Word.{Word}
use Rattle.data_driver.specs.declared.word.Word.TheVariants.{Joined, Plus, Constant}

-- a relation of this number at these bounds
abbrev pub relation : ℕ → ℤ → ℤ → ℤ → ℤ → Relation
relation number a b c d = record { number = number; bounds = a ∷ b ∷ c ∷ d ∷ [] }

-- the number of a relation: where it lowers, the one behind that where it refuses
abbrev pub number_with : Excess → ℕ → ℕ
number_with Refused refusing = refusing
number_with Lowered refusing = refusing + 1

-- a limit as a relation
abbrev pub limit_relation : Limit → Relation
limit_relation (Sum most) = relation 1 most (pos 0) (pos 0) (pos 0)
limit_relation (Product first second most) = relation 2 (pos first) (pos second) most (pos 0)
limit_relation (AtMost member most excess) = relation (number_with excess 3) (pos member) most (pos 0) (pos 0)
limit_relation (AtMostMember member other margin excess) = relation (number_with excess 5) (pos member) (pos other) margin (pos 0)
limit_relation (AtMostWhile member most other when) = relation 7 (pos member) most (pos other) when

-- a word as a relation
abbrev pub word_relation : Word → Relation
word_relation (Joined first second) = relation 11 (pos first) (pos second) (pos 0) (pos 0)
word_relation (Plus member more) = relation 12 (pos member) more (pos 0) (pos 0)
word_relation (Constant word) = relation 13 (pos word) (pos 0) (pos 0) (pos 0)

-- limits that name one member, or two, where the bounds are places
abbrev pub at_most : Option ℕ → ℤ → Excess → Option Limit
at_most (Some member) most excess = Some (AtMost member most excess)
at_most None most excess = None

abbrev pub product_of : Option ℕ → Option ℕ → ℤ → Option Limit
product_of (Some first) (Some second) most = Some (Product first second most)
product_of _ _ most = None

abbrev pub at_most_member : Option ℕ → Option ℕ → ℤ → Excess → Option Limit
at_most_member (Some member) (Some other) margin excess = Some (AtMostMember member other margin excess)
at_most_member _ _ margin excess = None

abbrev pub at_most_while : Option ℕ → ℤ → Option ℕ → ℤ → Option Limit
at_most_while (Some member) most (Some other) when = Some (AtMostWhile member most other when)
at_most_while _ most _ when = None

-- the limit of a number and its bounds
abbrev pub limit_at : ℕ → ℤ → ℤ → ℤ → ℤ → Option Limit
limit_at number a b c d =
    if number == 1 then Some (Sum a)
    else if number == 2 then product_of (place_of a) (place_of b) c
    else if number == 3 then at_most (place_of a) b Refused
    else if number == 4 then at_most (place_of a) b Lowered
    else if number == 5 then at_most_member (place_of a) (place_of b) c Refused
    else if number == 6 then at_most_member (place_of a) (place_of b) c Lowered
    else if number == 7 then at_most_while (place_of a) b (place_of c) d
    else None

abbrev pub limit_in : ℕ → List ℤ → Option Limit
limit_in number (a ∷ b ∷ c ∷ d ∷ rest) = limit_at number a b c d
limit_in number _ = None

-- a number as a word of 32 bits, where it is one
abbrev pub constant : ℤ → Option Word
constant (pos word) = if nat_lt word (2 ^ 32) then Some (Constant word) else None
constant (negsuc _) = None

abbrev pub joining : Option ℕ → Option ℕ → Option Word
joining (Some first) (Some second) = Some (Joined first second)
joining _ _ = None

abbrev pub plus_of : Option ℕ → ℤ → Option Word
plus_of (Some member) more = Some (Plus member more)
plus_of None more = None

-- the word of a number and its bounds
abbrev pub word_at : ℕ → ℤ → ℤ → Option Word
word_at number a b =
    if number == 11 then joining (place_of a) (place_of b)
    else if number == 12 then plus_of (place_of a) b
    else if number == 13 then constant a
    else None

abbrev pub word_in : ℕ → List ℤ → Option Word
word_in number (a ∷ b ∷ rest) = word_at number a b
word_in number _ = None

-- the limit that a relation is
abbrev pub limit_of : Relation → Option Limit
limit_of it = limit_in it.number it.bounds

-- the word that a relation is
abbrev pub told_word : Relation → Option Word
told_word it = word_in it.number it.bounds
