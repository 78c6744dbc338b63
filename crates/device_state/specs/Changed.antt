-- What a step that gives controls values does to a device: a set, the begin of a frame, a range change (of this project; Linux driver API, "V4L2 Controls", "Adding Notify Callbacks").
use Rattle.std.specs.Prelude.{◌≡◌, ◌≤◌, ◌+◌, ℕ, Bool, ◌++◌, List, [], ◌∷◌}
use Rattle.history.specs.Past.{past}
use Rattle.ctrl_types.specs.declared.ids.Pair.{Pair}
use Rattle.ctrl_calls.specs.Meanings.{Verdicts, Words}
use Rattle.ctrl_handlers.specs.Plan.{PlanData, members}
use Rattle.ctrl_clusters.specs.Rows.{Values, row_of}
use Rattle.ctrl_clusters.specs.Changes.{members_change}
use Rattle.ctrl_clusters.specs.Notified.{AreNotified, notified_count}
use Rattle.device_history.specs.declared.ask.Step.{Step}
use Rattle.device_history.specs.Steps.{Past}
use Rattle.device_history.specs.Values.{now, values_after}
use Rattle.device_state.specs.Device.{DeviceData}

-- the present values after a step
abbrev pub values_then : Verdicts → PlanData → Past → Step → Values
values_then verdicts plan older step = values_after verdicts plan older step (now verdicts plan older)

-- whether a step changes a member of a cluster, where it applies these pairs
abbrev pub moves : Verdicts → PlanData → Past → Step → List Pair → ℕ → Bool
moves verdicts plan older step applied = members_change plan (now verdicts plan older) (values_then verdicts plan older step) applied

-- The step is added; each cluster with a changed member is told its row of the values then, once, and the word of every other stays; so many validators are asked at most.
pub record IsChangedBy (verdicts : Verdicts) (told : Words) (old new : DeviceData) (seat : ℕ) (step : Step) (applied : List Pair) (most : ℕ) : Type 0 where
  pub plan : new.plan ≡ old.plan
  pub steps : new.steps ≡ old.steps ++ record { seat = seat; step = step } ∷ []
  pub words : AreNotified told old.plan (moves verdicts old.plan (past old.steps) step applied) (λ k. row_of (values_then verdicts old.plan (past old.steps) step) (members old.plan k)) old.words new.words
  pub notified : new.work.told ≡ notified_count old.plan (moves verdicts old.plan (past old.steps) step applied)
  pub asked : new.work.asked ≤ old.work.asked + most
