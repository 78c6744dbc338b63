-- A history of which each step fits the requests and the queue.
use Rattle.std.proofs.Common.{[], ◌∷◌}
use Rattle.ctrl_calls.specs.Meanings.{Verdicts}
use Rattle.ctrl_handlers.specs.Plan.{PlanData}
use Rattle.device_history.specs.Steps.{Past}
use Rattle.device_history.specs.FrameSteps.{FitsFrames}

-- each step fits what is older
unfoldable pub AllFit : Verdicts → PlanData → Past → Type 0
AllFit verdicts plan [] = Unit {0}
AllFit verdicts plan (e ∷ older) = AllFit verdicts plan older × FitsFrames verdicts plan older e.step
