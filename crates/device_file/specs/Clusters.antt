-- The clusters of a file (Linux driver API, "V4L2 Controls", "Control Clusters").
use Rattle.std.specs.Prelude.{ℕ, ◌+◌, ◌==◌, ◌&&◌, ◌||◌, Bool, true, false, nat_lt, if◌then◌else◌, ℤ, List, [], ◌∷◌, ◌++◌, length, Option, Some, None, is_some, position, Result, Ok, Err, ok_or, option_map}
use Rattle.std.specs.List.{list_any}
use Rattle.toml.specs.Data.{Data, Members, as_str, as_table}
use Rattle.ctrl_calls.specs.declared.relation.Relations.{Relations}
use Rattle.ctrl_calls.specs.declared.row.TheConstants.{MAX_MEMBERS}
use Rattle.ctrl_handlers.specs.Builder.{cluster_refusal}
use Rattle.ctrl_handlers.specs.Plan.{PlanData, with_cluster}
use Rattle.data_driver.specs.Data.{places_named}
use Rattle.data_driver.specs.Members.{missing}
use Rattle.data_driver.specs.Relations.{limit_relation, word_relation}
use Rattle.data_driver.specs.declared.limit.Limit.{Limit}
use Rattle.data_driver.specs.declared.word.Word.{Word}
use Rattle.data_driver.specs.declared.word.Word.TheVariants.{Joined, Plus, Constant}
use Rattle.script_lines.specs.ControlWords.{ControlWord, known_number}
use Rattle.file_faults.specs.Faults.{◌>>=◌, at_place, wrong, wrong_at}
use Rattle.file_tables.specs.Limits.{limit_of_table, place_of_text, word_of_table}
use Rattle.file_tables.specs.Reading.{elements_at, elements_in, number_in, table_in, table_with, text_in, value_at}
use Rattle.device_file.specs.Refusals.{cluster_fault, unless_refused}
use Rattle.file_faults.specs.declared.fault.FileFault.{FileFault}
use Rattle.file_faults.specs.declared.fault.KeyFault.{KeyFault}
use Rattle.file_faults.specs.declared.key.Key.{Key}
use Rattle.file_faults.specs.declared.key.Key.TheVariants as keys
use Rattle.file_faults.specs.declared.place.Place.TheVariants as places
use Rattle.file_faults.specs.declared.problem.Problem.TheVariants as problems
use Rattle.file_faults.specs.declared.problem.Sort.TheVariants as sorts

-- the keys of a cluster
abbrev pub cluster_keys : List Key
cluster_keys = keys.Members ∷ keys.Manual ∷ keys.Limit ∷ keys.Told ∷ []

-- whether some of these values is the name
abbrev pub is_among : List Data → Result (Option (List ℕ)) KeyFault → Bool
is_among names (Ok (Some name)) = is_some (place_of_text name names)
is_among names _ = false

-- whether a control is an array, and some of these values its name; of controls that were taken the arrays are those whose tables give elements
abbrev pub is_array_among : List Data → Option Members → Bool
is_array_among names (Some control) = is_some (value_at keys.Elems control) && is_among names (text_in keys.Name control)
is_array_among names None = false

-- whether a handler has an array whose name is some of these values
abbrev pub has_array_among : List Data → Option Members → Bool
has_array_among names (Some handler) = list_any (λ control. is_array_among names (as_table control)) (elements_at keys.Control handler)
has_array_among names None = false

-- whether a handler of the file has one
abbrev pub name_array : List Data → List Data → Bool
name_array handlers names = list_any (λ handler. has_array_among names (as_table handler)) handlers

-- that no member of a cluster is an array; its limit, or its word, may not be one's
abbrev pub unless_array : Bool → Result (Unit {0}) KeyFault
unless_array is_array = if is_array then Err (wrong keys.Kind problems.OfArray) else Ok tt

-- the limit of a cluster, where it has one; no member is an array then
abbrev pub limit_by : List Data → List Data → Option Data → Result (Option Limit) KeyFault
limit_by handlers names None = Ok None
limit_by handlers names (Some d) = do
  table ← table_in d
  limit ← limit_of_table names table
  _ ← unless_array (name_array handlers names)
  Ok (Some limit)

abbrev pub limit_in : List Data → Members → Result (Option Limit) KeyFault
limit_in handlers cluster = limit_by handlers (elements_at keys.Members cluster) (value_at keys.Limit cluster)

-- whether a word is of values
abbrev pub is_of_values : Word → Bool
is_of_values (Joined first second) = true
is_of_values (Plus member more) = true
is_of_values (Constant word) = false

-- what is told of a cluster, where something is; where it is of values, no member is an array
abbrev pub word_by : List Data → List Data → Option Data → Result (Option Word) KeyFault
word_by handlers names None = Ok None
word_by handlers names (Some d) = do
  table ← table_in d
  word ← word_of_table names table
  _ ← unless_array (is_of_values word && name_array handlers names)
  Ok (Some word)

abbrev pub word_in : List Data → Members → Result (Option Word) KeyFault
word_in handlers cluster = word_by handlers (elements_at keys.Members cluster) (value_at keys.Told cluster)

-- whether a name is among the members of a cluster
abbrev pub has_member : List ℕ → Option Members → Bool
has_member name (Some cluster) = is_some (place_of_text name (elements_at keys.Members cluster))
has_member name None = false

-- the number of the first of some clusters that has a name among its members
abbrev pub cluster_with : List Data → List ℕ → Option ℕ
cluster_with clusters name = position (λ cluster. has_member name (as_table cluster)) clusters

-- that a member isn't named further up in the same cluster
abbrev pub unless_twice : ℕ → Option ℕ → Result (Unit {0}) KeyFault
unless_twice place (Some _) = Err (wrong_at keys.Members place problems.NamedTwice)
unless_twice place None = Ok tt

-- that a member is in no cluster further up
abbrev pub unless_member : ℕ → Option ℕ → Result (Unit {0}) KeyFault
unless_member place (Some number) = Err (wrong_at keys.Members place (problems.InCluster number))
unless_member place None = Ok tt

-- The number of the control that an element of `members` names. These clusters stand further up in the file, and these elements in the array.
abbrev pub number_named : List ControlWord → List Data → List Data → ℕ → Option (List ℕ) → Result ℕ KeyFault
number_named words earlier before place (Some name) = do
  number ← ok_or (known_number words name) (wrong_at keys.Members place problems.UnknownControl)
  _ ← unless_twice place (place_of_text name before)
  _ ← unless_member place (cluster_with earlier name)
  Ok number
number_named words earlier before place None = Err (wrong_at keys.Members place (problems.Not sorts.Text))

abbrev pub number_by : List ControlWord → List Data → List Data → ℕ → Data → Result ℕ KeyFault
number_by words earlier before place d = number_named words earlier before place (as_str d)

-- these numbers, and behind them those of the controls that some elements of `members` name, from this place on; these elements stand before them
abbrev pub numbers_with : List ControlWord → List Data → List Data → List ℕ → ℕ → List Data → Result (List ℕ) KeyFault
numbers_with words earlier before ns place [] = Ok ns
numbers_with words earlier before ns place (d ∷ ds) = do
  n ← number_by words earlier before place d
  numbers_with words earlier (before ++ d ∷ []) (ns ++ n ∷ []) (place + 1) ds

-- that a cluster has 1 to 8 members
abbrev pub unless_misfit : List Data → Result (Unit {0}) KeyFault
unless_misfit names = if length names == 0 || nat_lt MAX_MEMBERS (length names) then Err (wrong keys.Members problems.ClusterSize) else Ok tt

-- whether a cluster has more than one member, or a manual value
abbrev pub has_more : Option ℤ → List Data → Bool
has_more manual names = is_some manual || nat_lt 1 (length names)

-- a member is an array, and the cluster has more
abbrev pub crowds : List Data → Option ℤ → List Data → Bool
crowds handlers manual names = has_more manual names && name_array handlers names

abbrev pub unless_crowded : Bool → Result (Unit {0}) KeyFault
unless_crowded crowded = if crowded then Err (wrong keys.Members problems.ArrayAlone) else Ok tt

-- the numbers of a cluster's members, which has this manual value; these clusters stand further up
abbrev pub members_in : List Data → List ControlWord → List Data → Option ℤ → Members → Result (List ℕ) KeyFault
members_in handlers words earlier manual cluster = do
  names ← elements_in keys.Members sorts.Array cluster
  _ ← unless_misfit names
  numbers ← numbers_with words earlier [] [] 0 names
  _ ← unless_crowded (crowds handlers manual names)
  Ok numbers

-- the relations of a limit and a word, each where there is one
abbrev pub calls_of : Option Limit → Option Word → Relations
calls_of limit word = record { validator = option_map limit_relation limit; notifier = option_map word_relation word }

-- a plan with one more cluster, of these members, manual value, limit and word
abbrev pub with_members : PlanData → List ℕ → Option ℤ → Option Limit → Option Word → Result PlanData KeyFault
with_members plan members manual limit word =
    if is_some (missing (length members) (places_named limit word)) then Err (wrong keys.Members problems.UnknownMember)
    else unless_refused cluster_fault (cluster_refusal plan members manual) (with_cluster plan members manual (calls_of limit word))

-- a plan with the cluster of a table, of which the members and the manual value are known
abbrev pub with_judged : List Data → PlanData → ℕ → Members → List ℕ → Option ℤ → Result PlanData FileFault
with_judged handlers plan number cluster members manual = do
  limit ← at_place (places.Limit number) (limit_in handlers cluster)
  word ← at_place (places.Told number) (word_in handlers cluster)
  at_place (places.Cluster number) (with_members plan members manual limit word)

-- A plan with the cluster of this number; these are the handlers of the file, and the clusters further up. Members are judged before a limit, or a word, can name them.
abbrev pub with_cluster_of : List Data → List ControlWord → List Data → PlanData → ℕ → Data → Result PlanData FileFault
with_cluster_of handlers words earlier plan number value = do
  cluster ← at_place (places.Cluster number) (table_with cluster_keys value)
  manual ← at_place (places.Cluster number) (number_in keys.Manual cluster)
  members ← at_place (places.Cluster number) (members_in handlers words earlier manual cluster)
  with_judged handlers plan number cluster members manual

-- a plan with the clusters that some values describe, from this number on, behind these
abbrev pub with_clusters : List Data → List ControlWord → List Data → PlanData → ℕ → List Data → Result PlanData FileFault
with_clusters handlers words earlier plan number [] = Ok plan
with_clusters handlers words earlier plan number (v ∷ vs) = do
  more ← with_cluster_of handlers words earlier plan number v
  with_clusters handlers words (earlier ++ v ∷ []) more (number + 1) vs
