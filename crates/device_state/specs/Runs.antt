-- Runs: what a list of calls, one after another, makes of a device (of this project).
use Rattle.std.specs.Prelude.{◌≡◌, ℕ, [], ◌∷◌, ◌++◌, List}
use Rattle.history.specs.Past.{past, entered}
use Rattle.ctrl_handlers.specs.Plan.{PlanData}
use Rattle.ctrl_calls.specs.Meanings.{Verdicts}
use Rattle.device_history.specs.declared.ask.Ask.{Ask}
use Rattle.device_history.specs.Steps.{History}
use Rattle.device_history.specs.Refusals.{Answer}
use Rattle.device_history.specs.Answers.{taken}
use Rattle.device_state.specs.Device.{DeviceData, Handles}

-- a call: the number of the seat that asks, what it asks, and what it is answered
pub record Call : Type 0 where
  pub seat : ℕ
  pub ask : Ask
  pub answer : Answer

-- calls lead from a device to a later one, where each does what a call does to the device that the calls before it led to
unfoldable pub IsRun : Verdicts → DeviceData → List Call → DeviceData → Type 0
IsRun verdicts first [] last = last ≡ first
IsRun verdicts first (call ∷ calls) last = (next : DeviceData) × Handles verdicts first next call.seat call.ask call.answer × IsRun verdicts next calls last

-- what a call adds behind some steps: the entry that it takes, or nothing
abbrev pub entry_added : Verdicts → PlanData → History → Call → History
entry_added verdicts plan steps call = entered call.seat (taken verdicts plan (past steps) call.ask call.answer)

-- what calls add, in their order
unfoldable pub entries_added : Verdicts → PlanData → History → List Call → History
entries_added verdicts plan steps [] = []
entries_added verdicts plan steps (call ∷ calls) = entry_added verdicts plan steps call ++ entries_added verdicts plan (steps ++ entry_added verdicts plan steps call) calls
