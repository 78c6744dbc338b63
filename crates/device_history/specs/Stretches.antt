-- Stretches of a history that leave the queued frames to come as they stand (of this project).
use Rattle.std.specs.Prelude.{ℕ, Bool, true, false, length, filter, is_some}
use Rattle.std.specs.List.{list_all}
use Rattle.device_history.specs.declared.ask.Step.{Step}
use Rattle.device_history.specs.declared.ask.Step.TheVariants as steps
use Rattle.device_history.specs.Steps.{History}
use Rattle.device_history.specs.Frames.{begun_by}

-- A step that leaves the rows of a forecast as they stand, but that a begin takes the first and a queueing adds one last: any but a set of present
-- values, a grab or its release, a range change, a cancellation and the end of the stream.
abbrev pub goes_on : Step → Bool
goes_on (steps.Set fh pairs) = false
goes_on (steps.Grab c on) = false
goes_on (steps.ModifyRange c low high apart default_value) = false
goes_on (steps.Cancel r) = false
goes_on steps.StreamOff = false
goes_on _ = true

-- entries all of whose steps are such
abbrev pub all_go_on : History → Bool
all_go_on entries = list_all (λ e. goes_on e.step) entries

-- how many frames entries begin
abbrev pub begins : History → ℕ
begins entries = length (filter (λ e. is_some (begun_by e.step)) entries)
