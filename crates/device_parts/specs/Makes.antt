-- What one more step makes of a state (of this project).
use Rattle.std.specs.Prelude.{◌≡◌, ◌++◌, ℕ, ◌<◌, ◌∷◌, [], false, nat_eq, List, length}
use Rattle.std.specs.List.{All, list_any}
use Rattle.history.specs.declared.entry.Entry.{Entry}
use Rattle.history.specs.Past.{past}
use Rattle.ctrl_calls.specs.Meanings.{Verdicts}
use Rattle.ctrl_types.specs.declared.ids.Pair.{Pair}
use Rattle.ctrl_handlers.specs.Plan.{PlanData, members}
use Rattle.ctrl_clusters.specs.Overlay.{is_touched}
use Rattle.device_history.specs.declared.ask.Step.{Step}
use Rattle.device_history.specs.Steps.{History}
use Rattle.device_history.specs.Legal.{MayFollow}
use Rattle.device_parts.specs.State.{IsMade, StateData}

-- A step makes one state of another: whatever steps made the old one, where this one may follow them as the one of its number, all of them made the new one.
abbrev pub Makes : Verdicts → PlanData → ℕ → Step → StateData → StateData → Type 0
Makes verdicts plan number step old new = (steps : History) (e : Entry Step) → length steps ≡ number → e.step ≡ step → IsMade verdicts plan steps old
    → MayFollow verdicts plan (past steps) step → IsMade verdicts plan (steps ++ e ∷ []) new

-- a step makes one state of another on any device, whatever its validators answer
abbrev pub MakesEverywhere : ℕ → Step → StateData → StateData → Type 0
MakesEverywhere number step old new = (verdicts : Verdicts) (plan : PlanData) → Makes verdicts plan number step old new

-- Some clusters of a plan, among them each that has a member among the pairs.
pub record Cover (plan : PlanData) (clusters : List ℕ) (pairs : List Pair) : Type 0 where
  pub known : All (λ k. k < length plan.clusters) clusters
  pub others : (k : ℕ) → k < length plan.clusters → list_any (nat_eq k) clusters ≡ false → is_touched pairs (members plan k) ≡ false
