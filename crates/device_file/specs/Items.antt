-- The items that a control's table gives a menu (Linux driver API, "V4L2 Controls", "Menu Controls").
use Rattle.std.specs.Prelude.{ℕ, ◌+◌, ◌^◌, ◌==◌, ◌&&◌, ℤ, pos, int_le, Bool, true, false, not, nat_le, nat_lt, if◌then◌else◌, List, [], ◌∷◌, length, Option, Some, None, Result, Ok, Err, ok_or}
use Rattle.std.specs.Char.{digit_value}
use Rattle.std.specs.Str.Parse.{digits_value, without_leading_plus}
use Rattle.toml.specs.Data.{Data, Items, Members, no_members, member, as_array, as_integer, as_str, as_table}
use Rattle.ctrl_settle.specs.Control.{Control}
use Rattle.ctrl_types.specs.declared.kind.Kind.{Kind}
use Rattle.ctrl_types.specs.declared.kind.Kind.TheVariants.{Menu, IntegerMenu}
use Rattle.menu_items.specs.declared.item.MenuItem.TheVariants.{Name, Number}
use Rattle.ctrl_handlers.specs.Builder.{name_refusal, number_refusal}
use Rattle.ctrl_handlers.specs.Plan.{PlanData, with_item}
use Rattle.file_faults.specs.Faults.{◌>>=◌, wrong, wrong_at}
use Rattle.file_tables.specs.Reading.{listed, value_at}
use Rattle.device_file.specs.Refusals.{item_fault, unless_refused}
use Rattle.file_faults.specs.declared.fault.KeyFault.{KeyFault}
use Rattle.file_faults.specs.declared.key.Key.TheVariants as keys
use Rattle.file_faults.specs.declared.problem.Problem.{Problem}
use Rattle.file_faults.specs.declared.problem.Problem.TheVariants as problems
use Rattle.file_faults.specs.declared.problem.Sort.TheVariants as sorts

-- what is wrong with an index that a menu doesn't take: it isn't from the minimum to the maximum, or it is skipped
abbrev pub index_problem : Control → ℕ → Problem
index_problem ctrl index = if int_le ctrl.minimum (pos index) && int_le (pos index) ctrl.maximum then problems.SkippedItem else problems.OutsideMenu

-- what is wrong with a name, or with a number, that a control doesn't take at an index: it is no menu, has items of the other sort, or doesn't take the index
abbrev pub name_problem : Kind → Control → ℕ → Problem
name_problem Menu ctrl index = index_problem ctrl index
name_problem IntegerMenu ctrl index = problems.OtherItem
name_problem _ ctrl index = problems.NotMenu

abbrev pub number_problem : Kind → Control → ℕ → Problem
number_problem IntegerMenu ctrl index = index_problem ctrl index
number_problem Menu ctrl index = problems.OtherItem
number_problem _ ctrl index = problems.NotMenu

-- a plan with an item of a control, whose description this is: a text is a name, a number a number
abbrev pub with_item_of : PlanData → ℕ → Control → ℕ → Option (List ℕ) → Option ℤ → Result PlanData KeyFault
with_item_of plan c ctrl index (Some name) _ = unless_refused (item_fault index (name_problem ctrl.kind ctrl index)) (name_refusal plan c index name) (with_item plan c index (Name name))
with_item_of plan c ctrl index None (Some number) = unless_refused (item_fault index (number_problem ctrl.kind ctrl index)) (number_refusal plan c index) (with_item plan c index (Number number))
with_item_of plan c ctrl index None None = Err (wrong_at keys.Menu index problems.NotItem)

abbrev pub with_given : PlanData → ℕ → Control → ℕ → Data → Result PlanData KeyFault
with_given plan c ctrl index d = with_item_of plan c ctrl index (as_str d) (as_integer d)

-- there is a text, and it is empty
abbrev pub is_empty_text : Option (List ℕ) → Bool
is_empty_text (Some text) = length text == 0
is_empty_text None = false

-- a plan with an element of an array as an item; an empty text is none
abbrev pub with_listed : PlanData → ℕ → Control → ℕ → Data → Result PlanData KeyFault
with_listed plan c ctrl index d =
    if nat_le (2 ^ 32) index then Err (wrong_at keys.Menu index problems.OutsideMenu)
    else if is_empty_text (as_str d) then Ok plan
    else with_given plan c ctrl index d

-- a plan with the elements of an array as items, from this index on
abbrev pub with_list : PlanData → ℕ → Control → ℕ → List Data → Result PlanData KeyFault
with_list plan c ctrl index [] = Ok plan
with_list plan c ctrl index (d ∷ ds) = do
  more ← with_listed plan c ctrl index d
  with_list more c ctrl (index + 1) ds

-- each byte is a digit, 0 to 9
abbrev pub are_digits : List ℕ → Bool
are_digits [] = true
are_digits (byte ∷ bytes) = nat_lt (digit_value byte) 10 && are_digits bytes

-- the number that digits write, where there are some, and it is one of 32 bits
abbrev pub number_of_digits : List ℕ → Option ℕ
number_of_digits digits =
    if not (length digits == 0) && are_digits digits && nat_lt (digits_value 10 digits) (2 ^ 32) then Some (digits_value 10 digits) else None

-- the index that a key of a table of items writes; a plus may stand before it
abbrev pub index_named : List ℕ → Result ℕ KeyFault
index_named key = ok_or (number_of_digits (without_leading_plus key)) (wrong keys.Menu problems.NotItemIndex)

-- a plan with the members of a table as items, each at the index that its key writes
abbrev pub with_member : PlanData → ℕ → Control → List ℕ → Data → Result PlanData KeyFault
with_member plan c ctrl key d = do
  index ← index_named key
  with_given plan c ctrl index d

abbrev pub with_table : PlanData → ℕ → Control → Members → Result PlanData KeyFault
with_table plan c ctrl no_members = Ok plan
with_table plan c ctrl (member key d rest) = do
  more ← with_member plan c ctrl key d
  with_table more c ctrl rest

-- a plan with the items of a menu: an array's in order, or a table's by their indexes
abbrev pub with_menu_of : PlanData → ℕ → Control → Option Items → Option Members → Result PlanData KeyFault
with_menu_of plan c ctrl (Some items) _ = with_list plan c ctrl 0 (listed items)
with_menu_of plan c ctrl None (Some items) = with_table plan c ctrl items
with_menu_of plan c ctrl None None = Err (wrong keys.Menu (problems.Not sorts.Menu))

-- what the value of `menu` adds, where there is one
abbrev pub with_menu : PlanData → ℕ → Control → Option Data → Result PlanData KeyFault
with_menu plan c ctrl (Some d) = with_menu_of plan c ctrl (as_array d) (as_table d)
with_menu plan c ctrl None = Ok plan

abbrev pub with_items : PlanData → ℕ → Control → Members → Result PlanData KeyFault
with_items plan c ctrl table = with_menu plan c ctrl (value_at keys.Menu table)
