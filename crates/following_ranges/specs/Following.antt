-- What an ask does on a device some of whose ranges follow other controls (of this project; a driver that moves the range of exposure where vertical blanking is set
-- does the like: Linux driver API, `v4l2_ctrl_modify_range`).
use Rattle.std.specs.Prelude.{◌≡◌, ◌<◌, ℕ, Bool, true, false, ◌&&◌, ◌||◌, if◌then◌else◌, [], ◌∷◌, ◌++◌, List, length, map, filter_map, Option, None, Some, is_none, is_some, Ok, Err, is_ok, ◌⊎◌}
use Rattle.std.specs.List.{list_any, range_with_len}
use Rattle.std.specs.Option.{option_map}
use Rattle.history.specs.Past.{past}
use Rattle.ctrl_types.specs.Classes.{which_of}
use Rattle.ctrl_types.specs.declared.check.Check.TheVariants.{HistoryFull, MemoryRefused}
use Rattle.ctrl_types.specs.declared.errno.Fault.{Fault}
use Rattle.ctrl_calls.specs.Meanings.{Verdicts}
use Rattle.ctrl_settle.specs.Control.{Control, with_range}
use Rattle.ctrl_settle.specs.Faults.{IsWellFormed}
use Rattle.ctrl_handlers.specs.Plan.{PlanData, control, control_in}
use Rattle.ctrl_clusters.specs.Rows.{Values}
use Rattle.device_history.specs.declared.ask.Ask.{Ask}
use Rattle.device_history.specs.declared.ask.Ask.TheVariants.{Begin, ModifyRange, SetCtrls}
use Rattle.device_history.specs.declared.ask.Reply.TheVariants.{Done}
use Rattle.device_history.specs.Steps.{Past}
use Rattle.device_history.specs.Lists.{meant, which_or}
use Rattle.device_history.specs.Ranges.{ranges_now}
use Rattle.device_history.specs.Refusals.{Answer, fault_by}
use Rattle.device_history.specs.Values.{now}
use Rattle.device_state.specs.Device.{DeviceData, Handles}
use Rattle.device_state.specs.Runs.{Call, IsRun}
use Rattle.range_followers.specs.declared.follower.Follower.{Follower}
use Rattle.range_followers.specs.Wanted.{have_moved, range_due}
use Rattle.following_ranges.specs.declared.asking.RangeAsk.{RangeAsk}

-- a control by its number, with the range that it is to have
abbrev pub RangeFor : Type 0
RangeFor = ℕ × Control

-- the range that is due for a control, with its number
abbrev pub due_for : List Follower → List Control → Values → ℕ → Option RangeFor
due_for followers ranges values c = option_map (λ wanted. (c, wanted)) (range_due followers c (control_in ranges c) values)

-- The ranges that are due after a history, in rising numbers of their controls: of each follower the one that it is wanted to have, where it has another.
abbrev pub ranges_due : Verdicts → List Follower → PlanData → Past → List RangeFor
ranges_due verdicts followers plan past =
    filter_map (due_for followers (ranges_now plan past) (now verdicts plan past)) (range_with_len 0 (length plan.controls))

-- of a device as it is: the range that is due for one control, and those that are due at all
abbrev pub due_now : Verdicts → List Follower → DeviceData → ℕ → Option RangeFor
due_now verdicts followers device c = due_for followers (ranges_now device.plan (past device.steps)) (now verdicts device.plan (past device.steps)) c

abbrev pub ranges_due_now : Verdicts → List Follower → DeviceData → List RangeFor
ranges_due_now verdicts followers device = ranges_due verdicts followers device.plan (past device.steps)

-- one more, where one was found
abbrev pub with_found : {X : Type 0} → Option X → List X → List X
with_found None due = due
with_found (Some one) due = due ++ one ∷ []

-- a range for a control that is there, and that is else as the plan describes it; nothing is wrong with it
abbrev pub IsOwn : PlanData → RangeFor → Type 0
IsOwn plan due = (due.0 < length plan.controls) × (due.1 ≡ with_range (control plan due.0) due.1.minimum due.1.maximum due.1.step due.1.default_value) × IsWellFormed due.1

-- whether an ask can be a change: a set that speaks of no request, the begin of a frame, and a range change
abbrev pub is_change : Ask → Bool
is_change (SetCtrls fh which request list) = is_none (meant (which_or (which_of which)) request)
is_change Begin = true
is_change (ModifyRange c low high apart default_value) = true
is_change _ = false

-- whether it is an accepted one, where this is its answer; it needn't move a value
abbrev pub is_accepted_change : Ask → Answer → Bool
is_accepted_change ask answer = is_ok answer && is_change ask

-- Whether ranges are asked for behind an ask that made some values of others: where a value that is followed has moved, or where a range that was refused is owed
-- and the ask was an accepted change.
abbrev pub are_asked : List Follower → Values → Values → Bool → Bool → Bool
are_asked followers before after owed changed = have_moved followers before after || (owed && changed)

-- whether they are asked for behind an ask that left this device
abbrev pub are_asked_now : Verdicts → List Follower → Values → DeviceData → Bool → Bool → Bool
are_asked_now verdicts followers before device owed changed = are_asked followers before (now verdicts device.plan (past device.steps)) owed changed

-- whether they are asked for behind an ask that left one device as another
abbrev pub asks_behind : Verdicts → List Follower → DeviceData → DeviceData → Bool → Ask → Answer → Bool
asks_behind verdicts followers old behind owed ask answer =
    are_asked followers (now verdicts old.plan (past old.steps)) (now verdicts old.plan (past behind.steps)) owed (is_accepted_change ask answer)

-- how an ask is answered that is refused so, or else done
abbrev pub answer_by : Option Fault → Answer
answer_by None = Ok Done
answer_by (Some fault) = Err fault

-- the call by which a range is asked for, and what it is answered
abbrev pub range_call : ℕ → RangeAsk → Call
range_call seat asked = record {
  seat = seat;
  ask = ModifyRange asked.control asked.wanted.minimum asked.wanted.maximum asked.wanted.step asked.wanted.default_value;
  answer = answer_by asked.refusal;
}

-- which range was asked for
abbrev pub range_for : RangeAsk → RangeFor
range_for asked = (asked.control, asked.wanted)

-- which ranges were asked for
abbrev pub ranges_of : List RangeAsk → List RangeFor
ranges_of asked = map range_for asked

-- whether a range that was asked for was refused
abbrev pub is_refused : RangeAsk → Bool
is_refused asked = is_some asked.refusal

-- An ask is answered, which leaves the device as `behind`. Where a followed value moved, or a range is owed and the ask was an accepted change, the ranges that are due there are asked
-- for, one after another, and each is given or refused by itself; one is owed then, where one of them was refused. Else nothing is asked for, and what was owed stays.
pub record HandlesAndFollows (verdicts : Verdicts) (followers : List Follower) (old new : DeviceData) (owed owed_then : Bool) (seat : ℕ) (ask : Ask) (answer : Answer) (asked : List RangeAsk) : Type 0 where
  pub behind : DeviceData
  pub answered : Handles verdicts old behind seat ask answer
  pub exactly : map range_for asked ≡ (if asks_behind verdicts followers old behind owed ask answer then ranges_due verdicts followers old.plan (past behind.steps) else [])
  pub one_by_one : IsRun verdicts behind (map (range_call seat) asked) new
  pub owes : owed_then ≡ (if asks_behind verdicts followers old behind owed ask answer then list_any is_refused asked else owed)

-- only want of memory, or the limit of steps, refuses a range
abbrev pub IsOfRoom : Option Fault → Type 0
IsOfRoom None = Unit {0}
IsOfRoom (Some fault) = (fault ≡ fault_by MemoryRefused) ⊎ (fault ≡ fault_by HistoryFull)
