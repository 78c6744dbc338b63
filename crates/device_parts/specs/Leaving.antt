-- Steps that leave file handles, grabs, ranges and values: those about requests but for the begin of a frame, and those about events; and what they need
-- of what they change (of this project).
use Rattle.std.specs.Prelude.{◌≡◌, ◌<◌, ℕ, Bool, true, false, List, None}
use Rattle.std.specs.List.{All}
use Rattle.req_book.specs.Requests.{RequestData, find}
use Rattle.frame_queue.specs.Frames.{FramesData}
use Rattle.device_history.specs.declared.ask.Step.{Step}
use Rattle.device_history.specs.declared.ask.Step.TheVariants as steps
use Rattle.device_history.specs.StepChecks.{HasItsTurn, request_refusal}

-- a step that leaves file handles, grabs, ranges and values
abbrev pub leaves_controls : Step → Bool
leaves_controls (steps.OpenFh handler) = false
leaves_controls (steps.CloseFh fh) = false
leaves_controls (steps.Set fh pairs) = false
leaves_controls (steps.Grab c on) = false
leaves_controls (steps.ModifyRange c low high apart default_value) = false
leaves_controls (steps.Begin r) = false
leaves_controls _ = true

-- what a step stores, or subscribes to, are controls that are there
abbrev pub NamesKnown : ℕ → Step → Type 0
NamesKnown controls (steps.Store r pairs) = All (λ p. p.control < controls) pairs
NamesKnown controls (steps.Subscribe fh c flags) = c < controls
NamesKnown controls _ = Unit {0}

-- the number of a step that makes a request is new among the requests
abbrev pub IsNew : ℕ → Step → List RequestData → Type 0
IsNew n steps.Alloc all = find all n ≡ None
IsNew n _ all = Unit {0}

-- What lets such a step, with this number, change requests and a queue: a request that it makes is new, the controls of which it stores values, or to which it
-- subscribes, are there, the requests don't refuse it, and where it ends a frame, it has its turn.
abbrev pub FitsIn : ℕ → Step → FramesData → Type 0
FitsIn n step f =
    (leaves_controls step ≡ true) × IsNew n step f.requests.all × NamesKnown f.requests.controls step
    × (request_refusal f.requests.all (find f.requests.all) step ≡ None) × HasItsTurn f.queue f.running step
