-- A list that can be set, and what accepting it does to a device (of this project).
use Rattle.std.specs.Prelude.{◌≡◌, ◌<◌, ◌≤◌, ℕ, length, false, ◌++◌, Option, None, Some}
use Rattle.std.specs.List.{All, list_any}
use Rattle.history.specs.Past.{past}
use Rattle.ctrl_types.specs.declared.ids.FhId.{FhId}
use Rattle.ctrl_types.specs.declared.ids.RequestId.{RequestId}
use Rattle.ctrl_calls.specs.Meanings.{Verdicts, Words}
use Rattle.ctrl_handlers.specs.Plan.{PlanData, IsPlan}
use Rattle.ctrl_lists.specs.Touched.{TouchedData, AreJudged}
use Rattle.device_history.specs.declared.ask.Step.TheVariants.{Set, Store}
use Rattle.ctrl_clusters.specs.Rows.{is_grabbed}
use Rattle.device_history.specs.Ranges.{ranges_now}
use Rattle.device_history.specs.Grabs.{grabbed}
use Rattle.device_history.specs.Steps.{Past}
use Rattle.ctrl_forecast.specs.Forecasts.{named_by_frames}
use Rattle.device_history.specs.Forecasts.{queued_frames}
use Rattle.device_history.specs.Values.{now}
use Rattle.device_history.specs.Refusals.{is_full}
use Rattle.device_history.specs.Legal.{MayFollow}
use Rattle.device_history.specs.Lists.{earlier_pairs, pairs_step}
use Rattle.device_state.specs.Device.{DeviceData, with_step}
use Rattle.ctrl_clusters.specs.NewRows.{clusters_of}
use Rattle.device_state.specs.Changed.{IsChangedBy}

-- A list that can be set, so that its rows can be written, or its pairs stored in the request that it speaks of: its pairs are laid behind what that asks
-- for; each touched cluster gets a row; none of its controls is grabbed; there is room for a step, and its step may follow.
pub record CanBeSet (verdicts : Verdicts) (plan : PlanData) (older : Past) (fh : FhId) (request : Option RequestId) (touch : TouchedData) : Type 0 where
  pub plans : IsPlan plan
  pub known : All (λ p. p.control < length plan.controls) touch.pairs
  pub judged : AreJudged verdicts plan (ranges_now plan older) (now verdicts plan older) (earlier_pairs plan older request ++ touch.pairs) touch.pairs touch.rows
  pub free : list_any (λ p. is_grabbed (grabbed plan older) p.control) touch.pairs ≡ false
  pub room : is_full older ≡ false
  pub follows : MayFollow verdicts plan older (pairs_step request fh touch.pairs)

-- What setting it does: it changes the device by its step, and renews the forecasts of the queued frames in the touched clusters.
abbrev pub SetsAll : Verdicts → Words → DeviceData → DeviceData → ℕ → FhId → TouchedData → Type 0
SetsAll verdicts told old new seat fh touch =
    IsChangedBy verdicts told old new seat (Set fh touch.pairs) touch.pairs (named_by_frames old.plan (queued_frames old.plan (past old.steps)) (clusters_of touch.rows)) × (old.work.asked ≤ new.work.asked)

-- what accepting a list does: it stores the pairs in the request that it speaks of, or sets it
abbrev pub SetsList : Verdicts → Words → DeviceData → DeviceData → ℕ → FhId → Option RequestId → TouchedData → Type 0
SetsList verdicts told old new seat fh None touch = SetsAll verdicts told old new seat fh touch
SetsList verdicts told old new seat fh (Some r) touch = new ≡ with_step old seat (Store r touch.pairs)
