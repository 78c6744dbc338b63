-- What a call of the builder refuses, as a stop of what is read.
use Rattle.std.proofs.Common.{◌≡◌, ◌∙◌, Option, Some, None, Result, Ok, Err, refl, ap, sym, subst}
use Rattle.ctrl_handlers.specs.Builder.{IsRefusedBy}
use Rattle.ctrl_handlers.specs.declared.fault.PlanFault.{PlanFault}
use Rattle.ctrl_handlers.specs.declared.fault.PlanFault.TheVariants.{ArrayAlone, CannotFollow, ClusterSize, DuplicateId, InCluster, LaterHandler, Limit, Memory, UnknownNumber}
use Rattle.file_faults.specs.declared.fault.KeyFault.{KeyFault}
use Rattle.device_file.specs.Refusals.{refused, unless_refused}
use Rattle.device_file.specs.Stops.{Stops}
use Rattle.device_file.specs.declared.stop.ReadError.{ReadError}

stops_by : (A : Type 0) (fault_of : PlanFault → KeyFault) (refusal : PlanFault) → Stops {A = A} (Err (fault_of refusal)) (refused fault_of refusal)
stops_by A fault_of Memory = tt
stops_by A fault_of ArrayAlone = refl
stops_by A fault_of CannotFollow = refl
stops_by A fault_of ClusterSize = refl
stops_by A fault_of DuplicateId = refl
stops_by A fault_of InCluster = refl
stops_by A fault_of LaterHandler = refl
stops_by A fault_of Limit = refl
stops_by A fault_of UnknownNumber = refl

pub refusal_stops : (A : Type 0) (fault_of : PlanFault → KeyFault) (refusal : Option PlanFault) (made : A) (fault : PlanFault) (error : ReadError) → IsRefusedBy refusal fault
    → error ≡ refused fault_of fault → Stops (unless_refused fault_of refusal made) error
refusal_stops A fault_of None made fault error h e = subst (λ (x : ReadError). Stops {A = A} (Ok made) x) (sym (e ∙ ap (refused fault_of) h)) tt
refusal_stops A fault_of (Some refusal) made fault error h e = subst (λ (x : ReadError). Stops {A = A} (Err (fault_of refusal)) x) (sym (e ∙ ap (refused fault_of) h)) (stops_by A fault_of refusal)
