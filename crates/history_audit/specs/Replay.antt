-- A replay: a history whose first steps were replayed, and the state that they made (of this project).
use Rattle.std.specs.Prelude.{◌≡◌, ℕ, ◌≤◌, Bool, true, false, [], ◌∷◌, ◌++◌, length, take, Option, None, Some, slice_get}
use Rattle.std.specs.Option.{option_map}
use Rattle.history.specs.declared.entry.Entry.{Entry}
use Rattle.history.specs.Past.{past}
use Rattle.ctrl_calls.specs.Meanings.{Verdicts}
use Rattle.ctrl_handlers.specs.Plan.{PlanData}
use Rattle.device_history.specs.declared.ask.Step.{Step}
use Rattle.device_history.specs.declared.ask.Step.TheVariants as steps
use Rattle.device_history.specs.declared.limits.TheConstants.{MAX_STEPS}
use Rattle.device_history.specs.Steps.{History}
use Rattle.device_history.specs.Legal.{MayFollow}
use Rattle.device_parts.specs.State.{IsMade, StateData}
use Rattle.history_audit.specs.declared.fault.AuditFault.{AuditFault}
use Rattle.history_audit.specs.declared.fault.AuditFault.TheVariants as faults

-- what is replayed: the plan of the device, the steps that were replayed, and all that there are
pub record ReplayData : Type 0 where
  pub plan : PlanData
  pub steps : History
  pub all : History

-- an entry is the next one to be replayed
abbrev pub IsNextEntry : ReplayData → Entry Step → Type 0
IsNextEntry replay e = slice_get replay.all (length replay.steps) ≡ Some e

-- the next entry that is to be replayed has this step
abbrev pub IsNextStep : ReplayData → Step → Type 0
IsNextStep replay step = option_map (λ e. e.step) (slice_get replay.all (length replay.steps)) ≡ Some step

-- the replay behind one more entry
abbrev pub with_next : ReplayData → Entry Step → ReplayData
with_next replay e = record replay { steps = replay.steps ++ e ∷ [] }

-- a step may follow those that were replayed
abbrev pub MayBeNext : Verdicts → ReplayData → Step → Type 0
MayBeNext verdicts replay step = MayFollow verdicts replay.plan (past replay.steps) step

-- What a try to replay an entry does: where its step may follow, it is replayed; where it may not, nothing changes.
abbrev pub Replayed : Verdicts → ReplayData → ReplayData → Entry Step → Bool → Type 0
Replayed verdicts old new e true = MayBeNext verdicts old e.step × (new ≡ with_next old e)
Replayed verdicts old new e false = (MayBeNext verdicts old e.step → ⊥) × (new ≡ old)

-- The next entry is replayed.
abbrev pub AddsNext : ReplayData → ReplayData → Type 0
AddsNext old new = (e : Entry Step) → IsNextEntry old e → new ≡ with_next old e

-- A try is made to replay the next entry.
abbrev pub TriesNext : Verdicts → ReplayData → ReplayData → Bool → Type 0
TriesNext verdicts old new is = (e : Entry Step) → IsNextEntry old e → Replayed verdicts old new e is

-- what was replayed and put aside: how many steps, and the state that they made
pub record ProgressData : Type 0 where
  pub count : ℕ
  pub state : StateData

-- So many steps of all were replayed, no more than a device keeps, and they made the state.
pub record IsReplay (verdicts : Verdicts) (plan : PlanData) (all : History) (count : ℕ) (state : StateData) : Type 0 where
  pub within : count ≤ length all
  pub few : count ≤ MAX_STEPS
  pub made : IsMade verdicts plan (take count all) state

-- What was put aside are the first steps of a history, with what they make of the device.
abbrev pub IsProgressOf : Verdicts → PlanData → History → ProgressData → Type 0
IsProgressOf verdicts plan all made = IsReplay verdicts plan all made.count made.state

-- Something was put aside, and it has at least so many steps.
abbrev pub HasAtLeast : ℕ → Option ProgressData → Type 0
HasAtLeast least None = ⊥
HasAtLeast least (Some back) = least ≤ back.count

-- Where something was put aside before, what is handed back has as many steps, or more.
abbrev pub LosesNothing : Option ProgressData → Option ProgressData → Type 0
LosesNothing None back = Unit {0}
LosesNothing (Some made) back = HasAtLeast made.count back

-- Where a step may not follow, what was put aside are the steps before it.
abbrev pub HasStopped : AuditFault → Option ProgressData → Type 0
HasStopped (faults.NotLegal index) None = ⊥
HasStopped (faults.NotLegal index) (Some back) = back.count ≡ index
HasStopped faults.Memory back = Unit {0}

-- What was put aside is a replay: as many steps as were replayed there, the first ones of all, and what they made.
pub record IsAside (verdicts : Verdicts) (replay : ReplayData) (aside : ProgressData) : Type 0 where
  pub many : aside.count ≡ length replay.steps
  pub made : IsMade verdicts replay.plan replay.steps aside.state
  pub first : IsProgressOf verdicts replay.plan replay.all aside

-- a step that is replayed where what it gives the controls was judged: the pairs of a set and of a store, and the range of a range change
abbrev pub is_judged : Step → Bool
is_judged (steps.Set fh pairs) = true
is_judged (steps.Store r pairs) = true
is_judged (steps.ModifyRange c low high apart default_value) = true
is_judged _ = false
