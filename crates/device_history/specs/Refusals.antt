-- Answers, and the refusals that asks of each family share (of this project).
use Rattle.std.specs.Prelude.{ℕ, Bool, nat_le, if◌then◌else◌, length, Option, None, Some, Result, Ok, Err}
use Rattle.ctrl_types.specs.declared.check.Check.{Check}
use Rattle.ctrl_types.specs.declared.check.Check.TheVariants.{HistoryFull}
use Rattle.ctrl_types.specs.Checks.{errno_of}
use Rattle.ctrl_types.specs.declared.errno.Fault.{Fault}
use Rattle.device_history.specs.declared.ask.Reply.{Reply}
use Rattle.device_history.specs.declared.limits.TheConstants.{MAX_STEPS}
use Rattle.device_history.specs.Steps.{Past}

-- what a call answers
abbrev pub Answer : Type 0
Answer = Result Reply Fault

-- the fault of an ask that isn't a list, where this check refuses it
abbrev pub fault_by : Check → Fault
fault_by check = record { errno = errno_of check; index = None }

-- its answer then
abbrev pub refused : Check → Answer
refused check = Err (fault_by check)

-- a refusal of a list, with the index that it answers
abbrev pub refused_at : Check → ℕ → Answer
refused_at check index = Err (record { errno = errno_of check; index = Some index })

-- the reply, unless a check refuses the ask
abbrev pub unless_refused : Option Check → Reply → Answer
unless_refused None reply = Ok reply
unless_refused (Some check) reply = refused check

-- the reply that tells what was found, or the refusal by the check where nothing was
abbrev pub replied_with : {X : Type 0} → (X → Reply) → Result X Check → Answer
replied_with reply (Ok x) = Ok (reply x)
replied_with reply (Err check) = refused check

-- the fault of an answer, where it is a refusal
abbrev pub fault_of : Answer → Option Fault
fault_of (Ok reply) = None
fault_of (Err fault) = Some fault

-- no further step is kept
abbrev pub is_full : Past → Bool
is_full past = nat_le MAX_STEPS (length past)

-- the check that refuses an ask that adds a step: its own, and then that no further step is kept
abbrev pub step_check : Past → Option Check → Option Check
step_check past (Some check) = Some check
step_check past None = if is_full past then Some HistoryFull else None

-- an ask that adds a step: the reply, unless its own check refuses it, or no further step is kept
abbrev pub stepped : Option Check → Past → Reply → Answer
stepped check past reply = unless_refused (step_check past check) reply

-- the same, where the reply tells what was found
abbrev pub stepped_with : {X : Type 0} → (X → Reply) → Result X Check → Past → Answer
stepped_with reply (Ok x) past = stepped None past (reply x)
stepped_with reply (Err check) past = refused check
