-- What a table says that a cluster is held to, and what is told of it. Members are named, and stand for their places in the cluster.
use Rattle.std.specs.Prelude.{ℕ, ◌+◌, ◌^◌, pos, List, [], ◌∷◌, Bool, false, nat_lt, Option, Some, None, Result, Ok, Err, codes, if◌then◌else◌}
use Rattle.std.specs.Option.{ok_or}
use Rattle.std.specs.Str.{bytes_eq}
use Rattle.toml.specs.Data.{Data, Members, as_str}
use Rattle.data_driver.specs.declared.limit.Excess.{Excess}
use Rattle.data_driver.specs.declared.limit.Excess.TheVariants.{Refused, Lowered}
use Rattle.data_driver.specs.declared.limit.Limit.{Limit}
use Rattle.data_driver.specs.declared.limit.Limit.TheVariants.{Sum, Product, AtMost, AtMostMember, AtMostWhile}
use Rattle.data_driver.specs.declared.word.Word.{Word}
use Rattle.data_driver.specs.declared.word.Word.TheVariants.{Joined, Plus, Constant}
use Rattle.file_tables.specs.Controls.{in_32_bits}
use Rattle.file_faults.specs.Faults.{◌>>=◌, wrong}
use Rattle.file_tables.specs.Reading.{needed_number_in, needed_text_in, no_others_in, number_or_in, text_in}
use Rattle.file_faults.specs.declared.fault.KeyFault.{KeyFault}
use Rattle.file_faults.specs.declared.key.Key.{Key}
use Rattle.file_faults.specs.declared.key.Key.TheVariants as keys
use Rattle.file_faults.specs.declared.problem.Problem.TheVariants as problems

-- whether this is the text
abbrev pub same_text : List ℕ → Option (List ℕ) → Bool
same_text word (Some text) = bytes_eq text word
same_text word None = false

abbrev pub is_text : List ℕ → Data → Bool
is_text word d = same_text word (as_str d)

-- the place of a text among some values, the first of which has this place
abbrev pub place_from : ℕ → List ℕ → List Data → Option ℕ
place_from place word [] = None
place_from place word (d ∷ ds) = if is_text word d then Some place else place_from (place + 1) word ds

abbrev pub place_of_text : List ℕ → List Data → Option ℕ
place_of_text word ds = place_from 0 word ds

-- a place as a member's: a byte
abbrev pub as_member : Option ℕ → Option ℕ
as_member (Some place) = if nat_lt place (2 ^ 8) then Some place else None
as_member None = None

-- the place among the members of the one that a key names
abbrev pub member_in : Key → List Data → Members → Result ℕ KeyFault
member_in key members table = do
  word ← needed_text_in key table
  ok_or (as_member (place_of_text word members)) (wrong key problems.UnknownMember)

-- what becomes of a value above a limit: it is refused where the table doesn't say
abbrev pub excess_of : Option (List ℕ) → Option Excess
excess_of None = Some Refused
excess_of (Some text) =
    if bytes_eq text (codes "refused") then Some Refused
    else if bytes_eq text (codes "lowered") then Some Lowered
    else None

abbrev pub excess_in : Members → Result Excess KeyFault
excess_in table = do
  text ← text_in keys.Excess table
  ok_or (excess_of text) (wrong keys.Excess problems.UnknownExcess)

-- the limits, each with the keys that its table has
abbrev pub sum_in : List Data → Members → Result Limit KeyFault
sum_in members table = do
  _ ← no_others_in (keys.Kind ∷ keys.Most ∷ []) table
  most ← needed_number_in keys.Most table
  Ok (Sum most)

abbrev pub product_in : List Data → Members → Result Limit KeyFault
product_in members table = do
  _ ← no_others_in (keys.Kind ∷ keys.First ∷ keys.Second ∷ keys.Most ∷ []) table
  first ← member_in keys.First members table
  second ← member_in keys.Second members table
  most ← needed_number_in keys.Most table
  Ok (Product first second most)

abbrev pub at_most_in : List Data → Members → Result Limit KeyFault
at_most_in members table = do
  _ ← no_others_in (keys.Kind ∷ keys.Member ∷ keys.Most ∷ keys.Excess ∷ []) table
  member ← member_in keys.Member members table
  most ← needed_number_in keys.Most table
  excess ← excess_in table
  Ok (AtMost member most excess)

abbrev pub at_most_member_in : List Data → Members → Result Limit KeyFault
at_most_member_in members table = do
  _ ← no_others_in (keys.Kind ∷ keys.Member ∷ keys.OtherMember ∷ keys.Margin ∷ keys.Excess ∷ []) table
  member ← member_in keys.Member members table
  other ← member_in keys.OtherMember members table
  margin ← number_or_in keys.Margin (pos 0) table
  excess ← excess_in table
  Ok (AtMostMember member other margin excess)

abbrev pub at_most_while_in : List Data → Members → Result Limit KeyFault
at_most_while_in members table = do
  _ ← no_others_in (keys.Kind ∷ keys.Member ∷ keys.Most ∷ keys.OtherMember ∷ keys.When ∷ []) table
  member ← member_in keys.Member members table
  most ← needed_number_in keys.Most table
  other ← member_in keys.OtherMember members table
  when ← needed_number_in keys.When table
  Ok (AtMostWhile member most other when)

abbrev pub limit_of_kind : List ℕ → List Data → Members → Result Limit KeyFault
limit_of_kind kind members table =
    if bytes_eq kind (codes "sum") then sum_in members table
    else if bytes_eq kind (codes "product") then product_in members table
    else if bytes_eq kind (codes "at_most") then at_most_in members table
    else if bytes_eq kind (codes "at_most_member") then at_most_member_in members table
    else if bytes_eq kind (codes "at_most_while") then at_most_while_in members table
    else Err (wrong keys.Kind problems.UnknownLimit)

-- the limit of a table, whose cluster has these names of members
abbrev pub limit_of_table : List Data → Members → Result Limit KeyFault
limit_of_table members table = do
  kind ← needed_text_in keys.Kind table
  limit_of_kind kind members table

-- the words that may be told, each with the keys that its table has
abbrev pub joined_in : List Data → Members → Result Word KeyFault
joined_in members table = do
  _ ← no_others_in (keys.Kind ∷ keys.First ∷ keys.Second ∷ []) table
  first ← member_in keys.First members table
  second ← member_in keys.Second members table
  Ok (Joined first second)

abbrev pub plus_in : List Data → Members → Result Word KeyFault
plus_in members table = do
  _ ← no_others_in (keys.Kind ∷ keys.Member ∷ keys.More ∷ []) table
  member ← member_in keys.Member members table
  more ← needed_number_in keys.More table
  Ok (Plus member more)

abbrev pub constant_in : List Data → Members → Result Word KeyFault
constant_in members table = do
  _ ← no_others_in (keys.Kind ∷ keys.Word ∷ []) table
  number ← needed_number_in keys.Word table
  word ← ok_or (in_32_bits number) (wrong keys.Word problems.NotWord)
  Ok (Constant word)

abbrev pub word_of_kind : List ℕ → List Data → Members → Result Word KeyFault
word_of_kind kind members table =
    if bytes_eq kind (codes "joined") then joined_in members table
    else if bytes_eq kind (codes "plus") then plus_in members table
    else if bytes_eq kind (codes "constant") then constant_in members table
    else Err (wrong keys.Kind problems.UnknownTold)

-- the word that a table has told, whose cluster has these names of members
abbrev pub word_of_table : List Data → Members → Result Word KeyFault
word_of_table members table = do
  kind ← needed_text_in keys.Kind table
  word_of_kind kind members table
