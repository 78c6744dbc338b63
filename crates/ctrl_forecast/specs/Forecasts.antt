-- Forecasts: what queued frames will make of a device's values, each over what the one before leaves (of this project).
use Rattle.std.specs.Prelude.{ℕ, List, [], ◌∷◌, count_by}
use Rattle.std.specs.List.{sum_by}
use Rattle.ctrl_types.specs.declared.ids.Pair.{Pair}
use Rattle.ctrl_types.specs.declared.ids.RequestId.{RequestId}
use Rattle.ctrl_calls.specs.Meanings.{Verdicts}
use Rattle.ctrl_settle.specs.Control.{Control}
use Rattle.ctrl_handlers.specs.Plan.{PlanData, members}
use Rattle.ctrl_clusters.specs.Rows.{Values, Grabs}
use Rattle.ctrl_clusters.specs.Overlay.{is_touched, overlay, refused_clusters}
use Rattle.ctrl_forecast.specs.Touched.{touched_count}
use Rattle.ctrl_forecast.specs.declared.board.Forecast.{Forecast}

-- a queued frame: its request, the number of its buffer, and what it asks for
pub record QueuedData : Type 0 where
  pub request : RequestId
  pub buffer : ℕ
  pub asked : List Pair

-- What a frame will have, over the values before it: what it asks for is laid over them under these ranges and grabs, and these clusters are refused.
abbrev pub forecast_over : Verdicts → PlanData → List Control → Values → Grabs → QueuedData → Forecast
forecast_over verdicts plan controls values grabs q = record {
  request = q.request;
  buffer = q.buffer;
  values = overlay verdicts plan controls values grabs q.asked;
  refused = refused_clusters verdicts plan controls values grabs q.asked;
}

-- What queued frames will have, in their order: the first over these values, each other over those of the one before.
unfoldable pub forecasts : Verdicts → PlanData → List Control → Values → Grabs → List QueuedData → List Forecast
forecasts verdicts plan controls values grabs [] = []
forecasts verdicts plan controls values grabs (q ∷ qs) =
    forecast_over verdicts plan controls values grabs q ∷ forecasts verdicts plan controls (overlay verdicts plan controls values grabs q.asked) grabs qs

-- the values of the last of some frames; where there is none, those before them
abbrev pub values_behind : Values → List Forecast → Values
values_behind values [] = values
values_behind values (row ∷ rows) = values_behind row.values rows

-- how many clusters queued frames touch, each for itself
abbrev pub touched_by_all : PlanData → List QueuedData → ℕ
touched_by_all plan queued = sum_by (λ q. touched_count plan q.asked) queued

-- how many queued frames name a cluster: a member is among what they ask for
abbrev pub naming_count : PlanData → List QueuedData → ℕ → ℕ
naming_count plan queued k = count_by (λ q. is_touched q.asked (members plan k)) queued

-- How often queued frames name some clusters, each for itself.
abbrev pub named_by_frames : PlanData → List QueuedData → List ℕ → ℕ
named_by_frames plan queued clusters = sum_by (naming_count plan queued) clusters
