-- What a table says at a key, or what is wrong there.
use Rattle.std.specs.Prelude.{ℕ, ℤ, List, [], ◌∷◌, Bool, not, false, Option, Some, None, Result, Ok, Err, position}
use Rattle.std.specs.List.{list_any}
use Rattle.std.specs.Option.{ok_or, option_and_then}
use Rattle.std.specs.Result.{result_map_both}
use Rattle.std.specs.Str.{bytes_eq}
use Rattle.toml.specs.Data.{Data, Items, no_items, item, Members, no_members, member, get_member, as_array, as_bool, as_integer, as_str, as_table}
use Rattle.file_faults.specs.Faults.{◌>>=◌, wrong}
use Rattle.file_faults.specs.Keys.{key_word}
use Rattle.file_faults.specs.declared.fault.KeyFault.{KeyFault}
use Rattle.file_faults.specs.declared.key.Key.{Key}
use Rattle.file_faults.specs.declared.key.Key.TheVariants as keys
use Rattle.file_faults.specs.declared.problem.Problem.TheVariants as problems
use Rattle.file_faults.specs.declared.problem.Sort.{Sort}
use Rattle.file_faults.specs.declared.problem.Sort.TheVariants as sorts

-- what was read, seen so; a fault stays as it is
abbrev pub read_as : {A B : Type 0} → (A → B) → Result A KeyFault → Result B KeyFault
read_as f result = result_map_both f (λ e. e) result

-- the value at a key
abbrev pub value_at : Key → Members → Option Data
value_at key table = get_member (key_word key) table

-- what a value is that has to be of a sort
abbrev pub of_sort : {A : Type 0} → Sort → Key → Option A → Result A KeyFault
of_sort sort key it = ok_or it (wrong key (problems.Not sort))

-- a value of a sort, where one is there
abbrev pub sorted : {A : Type 0} → (Data → Option A) → Sort → Key → Option Data → Result (Option A) KeyFault
sorted as_sort sort key None = Ok None
sorted as_sort sort key (Some d) = do
  it ← of_sort sort key (as_sort d)
  Ok (Some it)

-- the text at a key, where it is there; and the number
abbrev pub text_in : Key → Members → Result (Option (List ℕ)) KeyFault
text_in key table = sorted as_str sorts.Text key (value_at key table)

abbrev pub number_in : Key → Members → Result (Option ℤ) KeyFault
number_in key table = sorted as_integer sorts.Integer key (value_at key table)

-- what has to be there
abbrev pub needed : {A : Type 0} → Key → Option A → Result A KeyFault
needed key it = ok_or it (wrong key problems.Missing)

abbrev pub needed_text_in : Key → Members → Result (List ℕ) KeyFault
needed_text_in key table = do
  text ← text_in key table
  needed key text

abbrev pub needed_number_in : Key → Members → Result ℤ KeyFault
needed_number_in key table = do
  number ← number_in key table
  needed key number

-- a number, or another where there is none
abbrev pub number_or : ℤ → Option ℤ → ℤ
number_or other (Some number) = number
number_or other None = other

abbrev pub number_or_in : Key → ℤ → Members → Result ℤ KeyFault
number_or_in key other table = do
  number ← number_in key table
  Ok (number_or other number)

-- what is there, and is true
abbrev pub is_given : Option Bool → Bool
is_given (Some given) = given
is_given None = false

-- whether a key is true; false where it isn't there
abbrev pub truth_in : Key → Members → Result Bool KeyFault
truth_in key table = do
  truth ← sorted as_bool sorts.Truth key (value_at key table)
  Ok (is_given truth)

-- some items as a list
abbrev pub listed : Items → List Data
listed no_items = []
listed (item it rest) = it ∷ listed rest

-- the items that are there, as a list
abbrev pub listed_of : Option Items → List Data
listed_of (Some items) = listed items
listed_of None = []

-- the elements of the array at a key, which has to be of this sort; none where it isn't there
abbrev pub elements_in : Key → Sort → Members → Result (List Data) KeyFault
elements_in key sort table = do
  items ← sorted as_array sort key (value_at key table)
  Ok (listed_of items)

-- the same, where anything else is none, too
abbrev pub elements_at : Key → Members → List Data
elements_at key table = listed_of (option_and_then as_array (value_at key table))

-- the table that a value is
abbrev pub table_in : Data → Result Members KeyFault
table_in d = of_sort sorts.Table keys.Table (as_table d)

-- the keys of a table, in the order of their bytes
abbrev pub keys_in : Members → List (List ℕ)
keys_in no_members = []
keys_in (member key d rest) = key ∷ keys_in rest

-- whether a text is one of some keys
abbrev pub is_key_of : List Key → List ℕ → Bool
is_key_of known text = list_any (λ key. bytes_eq (key_word key) text) known

-- the first key that is there and isn't one of these, by its place
abbrev pub is_free_of : Option ℕ → Result (Unit {0}) KeyFault
is_free_of (Some place) = Err (wrong (keys.Other place) problems.UnknownKey)
is_free_of None = Ok tt

-- that a table has no key but these
abbrev pub no_others_in : List Key → Members → Result (Unit {0}) KeyFault
no_others_in known table = is_free_of (position (λ text. not (is_key_of known text)) (keys_in table))

-- the table that a value is, which has no key but these
abbrev pub table_with : List Key → Data → Result Members KeyFault
table_with known d = do
  table ← table_in d
  _ ← no_others_in known table
  Ok table
