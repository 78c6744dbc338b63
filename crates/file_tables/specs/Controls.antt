-- The control that a table describes; its keys are the fields of `struct v4l2_ctrl_config` (Linux driver API, "V4L2 Controls").
use Rattle.std.specs.Prelude.{ℕ, ◌+◌, ◌-◌, ◌*◌, ◌%◌, ◌^◌, ◌==◌, ◌&&◌, ◌||◌, ℤ, pos, negsuc, int_le, bit_or, Bool, not, nat_lt, if◌then◌else◌, List, [], ◌∷◌, length, Option, Some, None, Result, Ok, Err}
use Rattle.std.specs.List.{list_any}
use Rattle.std.specs.Option.{ok_or, option_and_then, option_map}
use Rattle.toml.specs.Data.{Data, Members, as_integer, as_str}
use Rattle.control_ids.specs.Ids.{kernel_id}
use Rattle.ctrl_types.specs.declared.flags.Flags.{Flags}
use Rattle.ctrl_types.specs.declared.ids.CtrlId.{CtrlId}
use Rattle.ctrl_types.specs.declared.kind.Kind.{Kind}
use Rattle.ctrl_types.specs.declared.kind.Kind.TheVariants.{Integer, Boolean, Menu, Button, Integer64, Bitmask, IntegerMenu, U8}
use Rattle.ctrl_settle.specs.Control.{Control, described, with_range}
use Rattle.ctrl_settle.specs.FirstFault.{can_skip, first_fault, has_elems}
use Rattle.ctrl_settle.specs.declared.fault.CtrlFault.{CtrlFault}
use Rattle.ctrl_settle.specs.declared.fault.CtrlFault.TheVariants.{BadRange, ZeroStep, BadDefault, KindBounds}
use Rattle.file_faults.specs.Faults.{◌>>=◌, wrong, wrong_at}
use Rattle.file_tables.specs.Bounds.{bound_in, first_default, first_maximum, first_minimum}
use Rattle.file_tables.specs.Names.{flag_named, kind_named}
use Rattle.file_tables.specs.Reading.{elements_at, elements_in, needed, needed_text_in, number_in, number_or_in, truth_in, value_at}
use Rattle.file_tables.specs.declared.bounds.Bound.{Bound}
use Rattle.file_faults.specs.declared.fault.KeyFault.{KeyFault}
use Rattle.file_faults.specs.declared.key.Key.{Key}
use Rattle.file_faults.specs.declared.key.Key.TheVariants as keys
use Rattle.file_faults.specs.declared.problem.Problem.{Problem}
use Rattle.file_faults.specs.declared.problem.Problem.TheVariants as problems
use Rattle.file_faults.specs.declared.problem.Sort.TheVariants as sorts

-- a number of 32 bits that isn't negative
abbrev pub in_32_bits : ℤ → Option ℕ
in_32_bits (pos number) = if nat_lt number (2 ^ 32) then Some number else None
in_32_bits (negsuc _) = None

-- a number that isn't negative
abbrev pub natural : ℤ → Option ℕ
natural (pos number) = Some number
natural (negsuc _) = None

-- the id that a table gives
abbrev pub id_with : ℕ → CtrlId
id_with number = record { 0 = number }

-- a text is the name that the kernel has for an id; a number is the id itself
abbrev pub id_by_name : List ℕ → Result CtrlId KeyFault
id_by_name name = ok_or (option_map id_with (kernel_id name)) (wrong keys.Id problems.UnknownId)

abbrev pub id_by_number : Option ℤ → Result CtrlId KeyFault
id_by_number (Some number) = ok_or (option_map id_with (in_32_bits number)) (wrong keys.Id problems.NotWord)
id_by_number None = Err (wrong keys.Id (problems.Not sorts.Id))

abbrev pub id_by : Option (List ℕ) → Option ℤ → Result CtrlId KeyFault
id_by (Some name) number = id_by_name name
id_by None number = id_by_number number

abbrev pub id_in : Members → Result CtrlId KeyFault
id_in table = do
  d ← needed keys.Id (value_at keys.Id table)
  id_by (as_str d) (as_integer d)

-- the type that a table names
abbrev pub kind_in : Members → Result Kind KeyFault
kind_in table = do
  text ← needed_text_in keys.Type table
  ok_or (kind_named text) (wrong keys.Type problems.UnknownType)

-- the place of the last item of an array, which is the usual maximum of a menu
abbrev pub last_item : Members → ℤ
last_item table = pos (length (elements_at keys.Menu table) - 1)

-- the maximum where a table has none
abbrev pub usual_maximum : Kind → ℤ → ℤ
usual_maximum Boolean last = pos 1
usual_maximum Menu last = last
usual_maximum IntegerMenu last = last
usual_maximum U8 last = pos 255
usual_maximum _ last = pos 0

-- the step where a table has none
abbrev pub usual_step : Kind → ℕ
usual_step Button = 0
usual_step Bitmask = 0
usual_step _ = 1

-- the step that a table gives
abbrev pub step_in : Kind → Members → Result ℕ KeyFault
step_in kind table = do
  number ← number_or_in keys.Step (pos (usual_step kind)) table
  ok_or (natural number) (wrong keys.Step problems.Negative)

-- how many elements a table gives an array; none where it doesn't say
abbrev pub elems_of_number : Option ℤ → Result (Option ℕ) KeyFault
elems_of_number None = Ok None
elems_of_number (Some number) = do
  elems ← ok_or (in_32_bits number) (wrong keys.Elems problems.NotWord)
  Ok (Some elems)

abbrev pub elems_in : Members → Result (Option ℕ) KeyFault
elems_in table = do
  number ← number_in keys.Elems table
  elems_of_number number

-- these bits, and those of some elements of a key's array, the first of which has this place; each has to be one
abbrev pub bits_from : (Data → Option ℕ) → Key → Problem → ℕ → ℕ → List Data → Result ℕ KeyFault
bits_from bit key problem bits place [] = Ok bits
bits_from bit key problem bits place (d ∷ ds) = do
  more ← ok_or (bit d) (wrong_at key place problem)
  bits_from bit key problem (bit_or bits more) (place + 1) ds

-- the bit of an index of 0 to 63: 1, shifted to the left in 64 bits
abbrev pub bit_at : ℕ → Option ℕ
bit_at index = if nat_lt index 64 then Some ((1 * 2 ^ index) % 2 ^ 64) else None

abbrev pub skipped : Data → Option ℕ
skipped d = option_and_then bit_at (option_and_then natural (as_integer d))

-- the items that a table skips, as bits
abbrev pub skip_bits_of : List Data → Result ℕ KeyFault
skip_bits_of ds = bits_from skipped keys.Skip problems.NotIndex 0 0 ds

abbrev pub skip_in : Members → Result ℕ KeyFault
skip_in table = do
  elements ← elements_in keys.Skip sorts.Array table
  skip_bits_of elements

-- the bit of the flag that a value names
abbrev pub flag_of : Data → Option ℕ
flag_of d = option_and_then flag_named (as_str d)

-- the flags that a table gives
abbrev pub flag_bits_of : List Data → Result ℕ KeyFault
flag_bits_of ds = bits_from flag_of keys.Flags problems.UnknownFlag 0 0 ds

abbrev pub flags_with : ℕ → Flags
flags_with bits = record { 0 = bits }

abbrev pub flags_in : Members → Result Flags KeyFault
flags_in table = do
  elements ← elements_in keys.Flags sorts.Array table
  bits ← flag_bits_of elements
  Ok (flags_with bits)

-- the control that these describe, with so many elements, of whose range nothing is said yet but the step
abbrev pub described_with : CtrlId → Kind → ℕ → Option ℕ → ℕ → Flags → Bool → Control
described_with id kind step elems skip flags is_private =
    record (described id kind (pos 0) (pos 0) step (pos 0) skip flags is_private) { elems = elems }

-- the same with the bounds and the default that are said, before it is known what they follow; this is the usual maximum
abbrev pub with_first : ℤ → Bound → Bound → Bound → Control → Control
with_first usual low high default_value c =
    with_range c (first_minimum usual low high) (first_maximum usual low high) c.step (first_default usual low high default_value)

-- what a table says of a control, key by key; of its range what is known before what it follows is
abbrev pub description_in : Members → Result Control KeyFault
description_in table = do
  id ← id_in table
  kind ← kind_in table
  low ← bound_in kind keys.Min table
  high ← bound_in kind keys.Max table
  step ← step_in kind table
  default_value ← bound_in kind keys.Default table
  elems ← elems_in table
  skip ← skip_in table
  flags ← flags_in table
  is_private ← truth_in keys.Private table
  Ok (with_first (usual_maximum kind (last_item table)) low high default_value (described_with id kind step elems skip flags is_private))

-- the numbers from one to another
pub record Range : Type 0 where
  pub least : ℤ
  pub most : ℤ

abbrev pub range : ℤ → ℤ → Range
range least most = record { least = least; most = most }

abbrev pub lies_in : Range → ℤ → Bool
lies_in these number = int_le these.least number && int_le number these.most

-- what a type takes as minimum
abbrev pub minimums : Kind → Range
minimums Integer = range (negsuc (2 ^ 31 - 1)) (pos (2 ^ 31 - 1))
minimums Integer64 = range (negsuc (2 ^ 63 - 1)) (pos (2 ^ 63 - 1))
minimums Menu = range (pos 0) (pos 63)
minimums IntegerMenu = range (pos 0) (pos 63)
minimums U8 = range (pos 0) (pos 255)
minimums _ = range (pos 0) (pos 0)

-- and as maximum
abbrev pub maximums : Kind → Range
maximums Boolean = range (pos 1) (pos 1)
maximums Bitmask = range (pos 1) (pos (2 ^ 32 - 1))
maximums kind = minimums kind

-- what is wrong where there are more elements, or fewer, than a type has
abbrev pub wrong_elems : Kind → Problem
wrong_elems U8 = problems.NotOfType U8
wrong_elems _ = problems.OnlyArrays

-- The first of skip, elements, minimum and maximum that isn't of the control's type; the step where these are. The flags are never the fault: a file names none that come
-- and go.
abbrev pub misfit : Control → KeyFault
misfit c =
    if not (can_skip c.kind c.skip) then wrong keys.Skip (problems.NotOfType c.kind)
    else if not (has_elems c.kind c.elems) then wrong keys.Elems (wrong_elems c.kind)
    else if not (lies_in (minimums c.kind) c.minimum) then wrong keys.Min (problems.NotOfType c.kind)
    else if not (lies_in (maximums c.kind) c.maximum) then wrong keys.Max (problems.NotOfType c.kind)
    else wrong keys.Step (problems.NotOfType c.kind)

-- which key a control's fault is of, and what is wrong there
abbrev pub said_of : Control → CtrlFault → KeyFault
said_of c BadRange = wrong keys.Min problems.BadRange
said_of c ZeroStep = wrong keys.Step problems.ZeroStep
said_of c KindBounds = misfit c
said_of c BadDefault = wrong keys.Default problems.BadDefault

-- a control, unless it has a fault
abbrev pub unless_fault : Control → Option CtrlFault → Result Control KeyFault
unless_fault c None = Ok c
unless_fault c (Some fault) = Err (said_of c fault)

-- a control, where nothing is wrong with what its table says together
abbrev pub checked : Control → Result Control KeyFault
checked c = unless_fault c (first_fault c)

-- the control that a table describes
abbrev pub control_at : Members → Result Control KeyFault
control_at table = do
  control ← description_in table
  checked control

-- scripts can say a word: it has one or more bytes, and none is a space, `=` or the end of a line
abbrev pub divides : ℕ → Bool
divides byte = byte == 32 || (byte == 61 || byte == 10)

abbrev pub is_sayable : List ℕ → Bool
is_sayable word = nat_lt 0 (length word) && not (list_any divides word)

-- what scripts call the control of a table
abbrev pub name_at : Members → Result (List ℕ) KeyFault
name_at table = do
  name ← needed_text_in keys.Name table
  if is_sayable name then Ok name else Err (wrong keys.Name problems.NotName)
