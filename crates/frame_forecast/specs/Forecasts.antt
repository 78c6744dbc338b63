-- Forecasts: what queued frames will make of a device's values, each over what the one before leaves (of this project).
use Rattle.std.specs.Prelude.{ℕ, List, [], ◌∷◌, count_by}
use Rattle.std.specs.List.{sum_by}
use Rattle.ctrl_types.specs.declared.ids.Pair.{Pair}
use Rattle.ctrl_types.specs.declared.ids.RequestId.{RequestId}
use Rattle.ctrl_calls.specs.Meanings.{Verdicts}
use Rattle.ctrl_handlers.specs.Plan.{PlanData, members}
use Rattle.ctrl_clusters.specs.ControlsData.{ControlsData}
use Rattle.ctrl_clusters.specs.Following.{laid_over}
use Rattle.ctrl_clusters.specs.Overlay.{is_touched, refused_clusters}
use Rattle.ctrl_forecast.specs.Touched.{touched_count}
use Rattle.ctrl_forecast.specs.Forecasts.{QueuedData}
use Rattle.ctrl_forecast.specs.declared.board.Forecast.{Forecast}

-- What a frame will have, over the ranges, values and grabs before it: what it asks for is laid over them, and ranges follow; and these clusters are refused.
abbrev pub forecast_over : Verdicts → PlanData → ControlsData → QueuedData → Forecast
forecast_over verdicts plan c q = record {
  request = q.request;
  buffer = q.buffer;
  values = (laid_over verdicts plan c q.asked).values;
  refused = refused_clusters verdicts plan c.ranges c.values c.grabs q.asked;
}

-- What queued frames will have, in their order: the first over these, each other over what the one before leaves, its ranges among that.
unfoldable pub forecasts : Verdicts → PlanData → ControlsData → List QueuedData → List Forecast
forecasts verdicts plan c [] = []
forecasts verdicts plan c (q ∷ qs) = forecast_over verdicts plan c q ∷ forecasts verdicts plan (laid_over verdicts plan c q.asked) qs
