-- Why a history isn't audited (of this project).
use Rattle.std.specs.Prelude.{◌≡◌, ℕ, ◌<◌, length, take, Some, slice_get}
use Rattle.history.specs.declared.entry.Entry.{Entry}
use Rattle.history.specs.Past.{past}
use Rattle.ctrl_calls.specs.Meanings.{Verdicts}
use Rattle.ctrl_handlers.specs.Plan.{PlanData}
use Rattle.device_history.specs.declared.ask.Step.{Step}
use Rattle.device_history.specs.Steps.{History}
use Rattle.device_history.specs.Legal.{IsLegal, MayFollow}
use Rattle.history_audit.specs.declared.fault.AuditFault.{AuditFault}
use Rattle.history_audit.specs.declared.fault.AuditFault.TheVariants as faults

-- The steps before a place are legal, and the one that stands there may not follow them.
pub record StopsAt (verdicts : Verdicts) (plan : PlanData) (steps : History) (index : ℕ) : Type 0 where
  pub within : index < length steps
  pub legal : IsLegal verdicts plan (past (take index steps))
  pub ends : (e : Entry Step) → slice_get steps index ≡ Some e → MayFollow verdicts plan (past (take index steps)) e.step → ⊥

-- a fault is right: a step that may not follow is the first such one; want of memory says nothing of the steps
abbrev pub IsFault : Verdicts → PlanData → History → AuditFault → Type 0
IsFault verdicts plan steps (faults.NotLegal index) = StopsAt verdicts plan steps index
IsFault verdicts plan steps faults.Memory = Unit {0}
