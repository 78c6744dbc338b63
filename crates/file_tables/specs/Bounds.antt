-- What a table says of the bounds and the default of a control: numbers, or the control that they follow (of this project).
use Rattle.std.specs.Prelude.{ℕ, ℤ, pos, List, ◌∷◌, [], Bool, true, false, not, ◌||◌, if◌then◌else◌, Option, Some, None, Result, Ok, Err}
use Rattle.std.specs.Option.{option_and_then}
use Rattle.toml.specs.Data.{Data, Members, as_integer, as_str, as_table}
use Rattle.ctrl_types.specs.declared.kind.Kind.{Kind}
use Rattle.range_followers.specs.Wanted.{can_follow}
use Rattle.file_faults.specs.Faults.{◌>>=◌, wrong}
use Rattle.file_tables.specs.Reading.{needed_text_in, no_others_in, number_in, number_or, value_at}
use Rattle.file_tables.specs.declared.bounds.Bound.{Bound}
use Rattle.file_tables.specs.declared.bounds.Bound.TheVariants.{Missing, Number, Follows}
use Rattle.file_faults.specs.declared.fault.KeyFault.{KeyFault}
use Rattle.file_faults.specs.declared.key.Key.{Key}
use Rattle.file_faults.specs.declared.key.Key.TheVariants as keys
use Rattle.file_faults.specs.declared.problem.Problem.TheVariants as problems
use Rattle.file_faults.specs.declared.problem.Sort.TheVariants as sorts

-- the keys of what a bound follows
abbrev pub source_keys : List Key
source_keys = keys.Follows ∷ keys.Plus ∷ []

-- the name of the control that a table says is followed: the table has no other keys, and what is added is a number
abbrev pub name_followed : Members → Result (List ℕ) KeyFault
name_followed table = do
  _ ← no_others_in source_keys table
  _ ← number_in keys.Plus table
  needed_text_in keys.Follows table

-- whether a table says what is followed
abbrev pub is_name : Result (List ℕ) KeyFault → Bool
is_name (Ok name) = true
is_name (Err fault) = false

abbrev pub is_source : Members → Bool
is_source table = is_name (name_followed table)

-- a bound that isn't a number: a table that says what it follows, where the type can follow
abbrev pub bound_by : Kind → Key → Option Members → Result Bound KeyFault
bound_by kind key None = Err (wrong key (problems.Not sorts.Integer))
bound_by kind key (Some table) =
    if not (can_follow kind) then Err (wrong key problems.CannotFollow)
    else if is_source table then Ok Follows
    else Err (wrong key (problems.Not sorts.Bound))

abbrev pub bound_with : Kind → Key → Option ℤ → Option Members → Result Bound KeyFault
bound_with kind key (Some number) table = Ok (Number number)
bound_with kind key None table = bound_by kind key table

abbrev pub bound_of : Kind → Key → Option Data → Result Bound KeyFault
bound_of kind key None = Ok Missing
bound_of kind key (Some d) = bound_with kind key (as_integer d) (as_table d)

-- what a table says of a bound, or of the default
abbrev pub bound_in : Kind → Key → Members → Result Bound KeyFault
bound_in kind key table = bound_of kind key (value_at key table)

-- the number that a bound is: the usual one where the table has none, and another one where it follows
abbrev pub number_of : Bound → ℤ → ℤ → ℤ
number_of (Number number) usual other = number
number_of Missing usual other = usual
number_of Follows usual other = other

-- whether it follows
abbrev pub follows : Bound → Bool
follows Follows = true
follows _ = false

-- Bounds before it is known what they follow: one that follows counts as the other one, and as 0 where that follows, too. This is the usual maximum.
abbrev pub first_minimum : ℤ → Bound → Bound → ℤ
first_minimum usual low high = number_of low (pos 0) (number_of high usual (pos 0))

abbrev pub first_maximum : ℤ → Bound → Bound → ℤ
first_maximum usual low high = number_of high usual (number_of low (pos 0) (pos 0))

-- the default until then: the minimum, where anything follows
abbrev pub first_default : ℤ → Bound → Bound → Bound → ℤ
first_default usual low high default_value =
    if follows low || (follows high || follows default_value) then first_minimum usual low high
    else number_of default_value (pos 0) (pos 0)

-- the name of the control that a key follows, and what is added to its value, where the key gives a table
abbrev pub source_at : Key → Members → Option Members
source_at key table = option_and_then as_table (value_at key table)

abbrev pub followed_at : Key → Members → Option (List ℕ)
followed_at key table = option_and_then as_str (option_and_then (value_at keys.Follows) (source_at key table))

-- a number at a key; 0 where there is none
abbrev pub number_at : Key → Members → ℤ
number_at key table = number_or (pos 0) (option_and_then as_integer (value_at key table))

abbrev pub plus_of : Option Members → ℤ
plus_of (Some source) = number_at keys.Plus source
plus_of None = pos 0

abbrev pub plus_at : Key → Members → ℤ
plus_at key table = plus_of (source_at key table)
