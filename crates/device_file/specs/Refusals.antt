-- What a plan builder's refusals are in a file.
use Rattle.std.specs.Prelude.{ℕ, Option, Some, None, Result, Ok, Err}
use Rattle.ctrl_handlers.specs.declared.fault.PlanFault.{PlanFault}
use Rattle.ctrl_handlers.specs.declared.fault.PlanFault.TheVariants.{ArrayAlone, ClusterSize, DuplicateId, Limit, Memory}
use Rattle.file_faults.specs.Faults.{wrong, wrong_at}
use Rattle.file_faults.specs.declared.fault.KeyFault.{KeyFault}
use Rattle.device_file.specs.declared.stop.ReadError.{ReadError}
use Rattle.device_file.specs.declared.stop.ReadError.TheVariants as errors
use Rattle.file_faults.specs.declared.key.Key.TheVariants as keys
use Rattle.file_faults.specs.declared.problem.Problem.{Problem}
use Rattle.file_faults.specs.declared.problem.Problem.TheVariants as problems

-- what a call of the builder makes; where it is refused, the fault that the refusal is
abbrev pub unless_refused : {A : Type 0} → (PlanFault → KeyFault) → Option PlanFault → A → Result A KeyFault
unless_refused fault_of None made = Ok made
unless_refused fault_of (Some refusal) made = Err (fault_of refusal)

-- an error of the builder: memory is wanting, or the fault that the refusal is
abbrev pub refused : (PlanFault → KeyFault) → PlanFault → ReadError
refused fault_of Memory = errors.Memory
refused fault_of refusal = errors.Key (fault_of refusal)

-- a further handler
abbrev pub handler_fault : PlanFault → KeyFault
handler_fault _ = wrong keys.Table problems.ManyHandlers

-- what an element of `adds` names
abbrev pub adding_fault : ℕ → PlanFault → KeyFault
adding_fault place _ = wrong_at keys.Adds place problems.UnknownHandler

-- a further control: the handler has one of this id; else there are as many as there can be
abbrev pub control_fault : PlanFault → KeyFault
control_fault DuplicateId = wrong keys.Id problems.IdTaken
control_fault _ = wrong keys.Table problems.ManyControls

-- the item at an index: its name is too long; else the control doesn't take it, since this is wrong with it
abbrev pub item_fault : ℕ → Problem → PlanFault → KeyFault
item_fault index misfit Limit = wrong_at keys.Menu index problems.LongItem
item_fault index misfit _ = wrong_at keys.Menu index misfit

-- a further cluster; its members were judged before
abbrev pub cluster_fault : PlanFault → KeyFault
cluster_fault ClusterSize = wrong keys.Members problems.ClusterSize
cluster_fault ArrayAlone = wrong keys.Members problems.ArrayAlone
cluster_fault _ = wrong keys.Members problems.NamedTwice
