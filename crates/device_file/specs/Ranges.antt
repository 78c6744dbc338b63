-- The ranges of a file that follow other controls of it (of this project; so the driver of a sensor moves the range of exposure where vertical blanking is set: Linux
-- driver API, `v4l2_ctrl_modify_range`).
use Rattle.std.specs.Prelude.{ℕ, ℤ, ◌+ℤ◌, List, [], ◌∷◌, ◌++◌, Bool, ◌==◌, ◌||◌, if◌then◌else◌, Option, Some, None, is_some, Result, Ok, Err, ok_or, option_map, unwrap_or}
use Rattle.std.specs.List.{list_any}
use Rattle.toml.specs.Data.{Members}
use Rattle.ctrl_types.specs.declared.kind.Kind.{Kind}
use Rattle.ctrl_settle.specs.Control.{Control}
use Rattle.ctrl_handlers.specs.Plan.{control_in}
use Rattle.range_followers.specs.Wanted.{can_follow, wanted_where}
use Rattle.range_followers.specs.declared.follower.DefaultSource.{DefaultSource}
use Rattle.range_followers.specs.declared.follower.DefaultSource.TheVariants.{Number, Value}
use Rattle.range_followers.specs.declared.follower.Follower.{Follower}
use Rattle.range_followers.specs.declared.follower.Source.{Source}
use Rattle.script_lines.specs.ControlWords.{ControlWord, known_number}
use Rattle.file_faults.specs.Faults.{◌>>=◌, wrong}
use Rattle.device_file.specs.declared.ranges.Followed.{Followed}
use Rattle.device_file.specs.declared.ranges.Read.{Read}
use Rattle.file_tables.specs.Bounds.{followed_at, number_at, plus_at}
use Rattle.file_tables.specs.Controls.{control_at}
use Rattle.file_faults.specs.declared.fault.KeyFault.{KeyFault}
use Rattle.file_faults.specs.declared.key.Key.{Key}
use Rattle.file_faults.specs.declared.key.Key.TheVariants as keys
use Rattle.file_faults.specs.declared.problem.Problem.TheVariants as problems

-- that a control that is followed is an integer or an integer64
abbrev pub unless_other : Key → Kind → Result (Unit {0}) KeyFault
unless_other key kind = if can_follow kind then Ok tt else Err (wrong key problems.NotFollowed)

-- whether the control of a number follows something
abbrev pub is_follower : List Follower → ℕ → Bool
is_follower followers c = list_any (λ f. f.control == c) followers

-- that a control that is followed doesn't
abbrev pub unless_follower : Key → Bool → Result (Unit {0}) KeyFault
unless_follower key follows = if follows then Err (wrong key problems.FollowsItself) else Ok tt

-- the control of a number as what a key follows, and what is added to its value
abbrev pub source : ℕ → ℤ → Source
source number plus = record { control = number; plus = plus }

abbrev pub source_of : List Control → List Follower → Key → ℕ → ℤ → Result Source KeyFault
source_of controls followers key number plus = do
  _ ← unless_other key (control_in controls number).kind
  _ ← unless_follower key (is_follower followers number)
  Ok (source number plus)

-- the same of the control with a name, which stands further up in the file
abbrev pub source_named : List Control → List ControlWord → List Follower → Key → List ℕ → ℤ → Result Source KeyFault
source_named controls words followers key name plus = do
  number ← ok_or (known_number words name) (wrong key problems.UnknownFollowed)
  source_of controls followers key number plus

abbrev pub source_by : List Control → List ControlWord → List Follower → Key → Option (List ℕ) → ℤ → Result (Option Source) KeyFault
source_by controls words followers key None plus = Ok None
source_by controls words followers key (Some name) plus = do
  it ← source_named controls words followers key name plus
  Ok (Some it)

-- What a key of a control's table follows, where it follows something. Of the controls further up these are the ranges at the start, the words, and how they follow others.
abbrev pub source_in : List Control → List ControlWord → List Follower → Key → Members → Result (Option Source) KeyFault
source_in controls words followers key table = source_by controls words followers key (followed_at key table) (plus_at key table)

-- what the bounds and the default of a control follow, each where it follows something
abbrev pub followed : Option Source → Option Source → Option Source → Followed
followed minimum maximum default_value = record { minimum = minimum; maximum = maximum; default_value = default_value }

abbrev pub followed_in : List Control → List ControlWord → List Follower → Members → Result Followed KeyFault
followed_in controls words followers table = do
  minimum ← source_in controls words followers keys.Min table
  maximum ← source_in controls words followers keys.Max table
  default_value ← source_in controls words followers keys.Default table
  Ok (followed minimum maximum default_value)

-- whether something does
abbrev pub follows_any : Followed → Bool
follows_any f = is_some f.minimum || (is_some f.maximum || is_some f.default_value)

-- what a default is nearest to: what it follows, and else the number of the file
abbrev pub default_by : Option Source → ℤ → DefaultSource
default_by (Some it) number = Value it
default_by None number = Number number

-- what a source makes of the values at the start, which are the defaults
abbrev pub number_first : List Control → Source → ℤ
number_first controls it = (control_in controls it.control).default_value +ℤ it.plus

abbrev pub default_first : List Control → DefaultSource → ℤ
default_first controls (Number number) = number
default_first controls (Value it) = number_first controls it

-- a control with the range that it is wanted to have then, whose default in the file is this number
abbrev pub wanted_first : List Control → Control → Followed → ℤ → Option Control
wanted_first controls ctrl f number =
    wanted_where ctrl (option_map (number_first controls) f.minimum) (option_map (number_first controls) f.maximum) (default_first controls (default_by f.default_value number))

-- A control with the range that it has at the start: where it follows others, the one that it is wanted to have under their defaults.
abbrev pub started : List Control → Control → Followed → ℤ → Control
started controls ctrl f number = if follows_any f then unwrap_or (wanted_first controls ctrl f number) ctrl else ctrl

-- a control as its table describes it, with the range that it has at the start; what it follows; and its default in the file
abbrev pub read : List Control → Control → Followed → ℤ → Read
read controls ctrl f number = record { ctrl = started controls ctrl f number; followed = f; of_file = number }

abbrev pub read_in : List Control → List ControlWord → List Follower → Members → Result Read KeyFault
read_in controls words followers table = do
  ctrl ← control_at table
  f ← followed_in controls words followers table
  Ok (read controls ctrl f (number_at keys.Default table))

-- how the control of a number follows
abbrev pub follower : ℕ → Read → Follower
follower c it = record { control = c; minimum = it.followed.minimum; maximum = it.followed.maximum; default_value = default_by it.followed.default_value it.of_file }

-- these, and behind them that, where it follows something
abbrev pub with_follower : List Follower → ℕ → Read → List Follower
with_follower followers c it = if follows_any it.followed then followers ++ follower c it ∷ [] else followers
