-- What raises of a step are made of: the pairs that were applied, and the file handle whose set it is (of this project).
use Rattle.std.specs.Prelude.{◌≡◌, List, [], Option, None, Some}
use Rattle.ctrl_types.specs.declared.ids.FhId.{FhId}
use Rattle.ctrl_types.specs.declared.ids.Pair.{Pair}
use Rattle.ctrl_calls.specs.Meanings.{Verdicts}
use Rattle.ctrl_handlers.specs.Plan.{PlanData}
use Rattle.device_history.specs.declared.ask.Step.{Step}
use Rattle.device_history.specs.declared.ask.Step.TheVariants as steps
use Rattle.device_history.specs.Steps.{Past}
use Rattle.device_history.specs.Snapshots.{begun_pairs}

-- A set applies its pairs, the begin of a frame those of its request that aren't refused, and a grab none. What a range change raises is said at
-- `change_range`; no other step raises what it changes.
abbrev pub IsSourceOf : Verdicts → PlanData → Past → Step → List Pair → Option FhId → Type 0
IsSourceOf verdicts plan older (steps.Set fh own) pairs from = (pairs ≡ own) × (from ≡ Some fh)
IsSourceOf verdicts plan older (steps.Begin r) pairs from = (pairs ≡ begun_pairs verdicts plan older r.0) × (from ≡ None)
IsSourceOf verdicts plan older (steps.Grab c on) pairs from = (pairs ≡ []) × (from ≡ None)
IsSourceOf verdicts plan older _ pairs from = ⊥
