-- The handlers of a file with their controls (Linux driver API, "V4L2 Controls": `v4l2_ctrl_handler_init`, `v4l2_ctrl_new_custom`,
-- `v4l2_ctrl_add_handler`), and the words by which scripts name the controls.
use Rattle.std.specs.Prelude.{ℕ, ◌+◌, Bool, false, List, [], ◌∷◌, ◌++◌, length, position, Option, Some, None, Result, Ok, Err, ok_or}
use Rattle.std.specs.Str.{bytes_eq}
use Rattle.toml.specs.Data.{Data, Members, as_str, as_table}
use Rattle.ctrl_settle.specs.Control.{Control}
use Rattle.ctrl_handlers.specs.Builder.{control_refusal, handler_refusal}
use Rattle.ctrl_handlers.specs.Plan.{PlanData, with_added, with_control, with_handler}
use Rattle.range_followers.specs.declared.follower.Follower.{Follower}
use Rattle.script_lines.specs.ControlWords.{ControlWord, known_number}
use Rattle.file_tables.specs.Controls.{name_at}
use Rattle.file_faults.specs.Faults.{◌>>=◌, at_place, wrong, wrong_at}
use Rattle.device_file.specs.Items.{with_items}
use Rattle.device_file.specs.Ranges.{read_in, with_follower}
use Rattle.device_file.specs.declared.ranges.Read.{Read}
use Rattle.file_tables.specs.Reading.{elements_in, needed_text_in, table_with, text_in}
use Rattle.device_file.specs.Refusals.{control_fault, handler_fault, unless_refused}
use Rattle.file_faults.specs.declared.fault.FileFault.{FileFault}
use Rattle.file_faults.specs.declared.fault.KeyFault.{KeyFault}
use Rattle.file_faults.specs.declared.key.Key.{Key}
use Rattle.file_faults.specs.declared.key.Key.TheVariants as keys
use Rattle.file_faults.specs.declared.place.Place.TheVariants as places
use Rattle.file_faults.specs.declared.problem.Problem.TheVariants as problems
use Rattle.file_faults.specs.declared.problem.Sort.TheVariants as sorts

-- A device as far as its file is read: the plan, the words for its controls, and how their ranges follow each other.
pub record DeviceData : Type 0 where
  pub plan : PlanData
  pub words : List ControlWord
  pub followers : List Follower

abbrev pub device : PlanData → List ControlWord → List Follower → DeviceData
device plan words followers = record { plan = plan; words = words; followers = followers }

-- whether a handler has a name
abbrev pub is_name : List ℕ → Result (Option (List ℕ)) KeyFault → Bool
is_name name (Ok (Some text)) = bytes_eq text name
is_name name _ = false

abbrev pub is_named : List ℕ → Option Members → Bool
is_named name (Some handler) = is_name name (text_in keys.Name handler)
is_named name None = false

abbrev pub has_name : List ℕ → Data → Bool
has_name name handler = is_named name (as_table handler)

-- the number of the first of some handlers that has a name
abbrev pub handler_named : List Data → List ℕ → Option ℕ
handler_named handlers name = position (has_name name) handlers

-- the keys of a handler
abbrev pub handler_keys : List Key
handler_keys = keys.Name ∷ keys.Adds ∷ keys.Control ∷ []

-- that a name isn't taken
abbrev pub unless_taken : Option ℕ → Result (Unit {0}) KeyFault
unless_taken (Some _) = Err (wrong keys.Name problems.NameTaken)
unless_taken None = Ok tt

-- the table of a handler: it has no other keys, and a name that no handler further up has
abbrev pub handler_in : List Data → Data → Result Members KeyFault
handler_in earlier d = do
  handler ← table_with handler_keys d
  name ← needed_text_in keys.Name handler
  _ ← unless_taken (handler_named earlier name)
  Ok handler

-- the number of the handler further up that an element of `adds` names
abbrev pub number_named : List Data → ℕ → Option (List ℕ) → Result ℕ KeyFault
number_named earlier place (Some name) = ok_or (handler_named earlier name) (wrong_at keys.Adds place problems.UnknownHandler)
number_named earlier place None = Err (wrong_at keys.Adds place (problems.Not sorts.Text))

abbrev pub added_in : List Data → ℕ → Data → Result ℕ KeyFault
added_in earlier place d = number_named earlier place (as_str d)

-- a plan whose handler of a number adds the one that an element of `adds` names; and those of some elements, from this place on
abbrev pub with_other : List Data → PlanData → ℕ → ℕ → Data → Result PlanData KeyFault
with_other earlier plan h place d = do
  added ← added_in earlier place d
  Ok (with_added plan h added)

abbrev pub with_others : List Data → PlanData → ℕ → ℕ → List Data → Result PlanData KeyFault
with_others earlier plan h place [] = Ok plan
with_others earlier plan h place (d ∷ ds) = do
  more ← with_other earlier plan h place d
  with_others earlier more h (place + 1) ds

-- a plan with one more handler, of this number, which adds what its table says
abbrev pub with_new_handler : List Data → PlanData → ℕ → Members → Result PlanData KeyFault
with_new_handler earlier plan h handler = do
  more ← unless_refused handler_fault (handler_refusal plan) (with_handler plan)
  names ← elements_in keys.Adds sorts.Array handler
  with_others earlier more h 0 names

-- what scripts call the control of a table; no other control of the file has the name
abbrev pub new_name : List ControlWord → Members → Result (List ℕ) KeyFault
new_name words table = do
  name ← name_at table
  _ ← unless_taken (known_number words name)
  Ok name

-- a plan with one more control of a handler, and the items of its table
abbrev pub with_built : PlanData → ℕ → Members → Control → Result PlanData KeyFault
with_built plan h table ctrl = do
  more ← unless_refused control_fault (control_refusal plan h ctrl) (with_control plan h ctrl)
  with_items more (length plan.controls) ctrl table

-- the keys of a control
abbrev pub control_keys : List Key
control_keys =
    keys.Name ∷ keys.Id ∷ keys.Type ∷ keys.Min ∷ keys.Max ∷ keys.Step ∷ keys.Default ∷ keys.Elems ∷ keys.Flags ∷ keys.Menu ∷ keys.Skip ∷ keys.Private
    ∷ []

-- these words, and behind them that of a control
abbrev pub with_word : List ControlWord → List ℕ → Control → ℕ → List ControlWord
with_word words name ctrl number = words ++ record { word = name; id = ctrl.id; number = number } ∷ []

-- a device with one more control of a handler, which was read so
abbrev pub with_read : DeviceData → ℕ → Members → List ℕ → Read → Result DeviceData KeyFault
with_read d h table name it = do
  plan ← with_built d.plan h table it.ctrl
  Ok (device plan (with_word d.words name it.ctrl (length d.plan.controls)) (with_follower d.followers (length d.plan.controls) it))

-- a device with one more control of a handler, that of a table, and its word
abbrev pub with_named : DeviceData → ℕ → Members → List ℕ → Result DeviceData KeyFault
with_named d h table name = do
  it ← read_in d.plan.controls d.words d.followers table
  with_read d h table name it

abbrev pub with_control_of : DeviceData → ℕ → Data → Result DeviceData KeyFault
with_control_of d h value = do
  table ← table_with control_keys value
  name ← new_name d.words table
  with_named d h table name

-- a device with the controls of a handler that some values describe, from this place on
abbrev pub with_controls : DeviceData → ℕ → ℕ → List Data → Result DeviceData FileFault
with_controls d h place [] = Ok d
with_controls d h place (v ∷ vs) = do
  more ← at_place (places.Control h place) (with_control_of d h v)
  with_controls more h (place + 1) vs

-- a device with one more handler, of this number, and its controls; these handlers stand further up
abbrev pub with_handler_of : List Data → DeviceData → ℕ → Data → Result DeviceData FileFault
with_handler_of earlier d h value = do
  handler ← at_place (places.Handler h) (handler_in earlier value)
  plan ← at_place (places.Handler h) (with_new_handler earlier d.plan h handler)
  tables ← at_place (places.Handler h) (elements_in keys.Control sorts.Tables handler)
  with_controls (device plan d.words d.followers) h 0 tables

-- a device with further handlers behind these, from this number on
abbrev pub with_handlers : List Data → DeviceData → ℕ → List Data → Result DeviceData FileFault
with_handlers earlier d h [] = Ok d
with_handlers earlier d h (v ∷ vs) = do
  more ← with_handler_of earlier d h v
  with_handlers (earlier ++ v ∷ []) more (h + 1) vs
