-- The forecasts that a device keeps, with the queued frames that they are of (of this project).
use Rattle.std.specs.Prelude.{◌≡◌, ℕ, false, List, [], length, map, filter, slice_index_or}
use Rattle.std.specs.List.{range_with_len}
use Rattle.ctrl_types.specs.declared.ids.Pair.{Pair}
use Rattle.ctrl_calls.specs.Meanings.{Verdicts}
use Rattle.ctrl_settle.specs.Control.{Control}
use Rattle.ctrl_handlers.specs.Plan.{PlanData, cluster_of, members, control_in}
use Rattle.ctrl_clusters.specs.ControlsData.{DifferIn, is_in_one_of}
use Rattle.ctrl_clusters.specs.Rows.{Values, Grabs, is_grabbed}
use Rattle.ctrl_clusters.specs.Overlay.{is_touched}
use Rattle.ctrl_clusters.specs.declared.moment.Moment.{Moment}
use Rattle.ctrl_forecast.specs.Forecasts.{QueuedData, forecasts}
use Rattle.ctrl_forecast.specs.declared.board.Forecast.{Forecast}

-- the clusters with a member among pairs, rising
abbrev pub named_clusters : PlanData → List Pair → List ℕ
named_clusters plan pairs = filter (λ k. is_touched pairs (members plan k)) (range_with_len 0 (length plan.clusters))

-- the queued frames, for each of them the clusters with a member among its pairs, and what each will have
pub record BoardData : Type 0 where
  pub queued : List QueuedData
  pub named : List (List ℕ)
  pub forecasts : List Forecast

-- the board of no frame
abbrev pub no_board : BoardData
no_board = record { queued = []; named = []; forecasts = [] }

-- What is kept of queued frames, where the first stands over these values, under these ranges and grabs: nothing of it depends on what was kept before.
abbrev pub board_of : Verdicts → PlanData → List Control → Values → Grabs → List QueuedData → BoardData
board_of verdicts plan controls values grabs queued = record {
  queued = queued;
  named = map (λ q. named_clusters plan q.asked) queued;
  forecasts = forecasts verdicts plan controls values grabs queued;
}

-- what is kept of them at a moment
abbrev pub board_at : {V J T : Type 0} {v : _} {j : _} {n : _} {t : _} → Verdicts → Moment V J T v j n t → List QueuedData → BoardData
board_at verdicts at queued = board_of verdicts at.plan.now at.ranges.now at.values.now at.grabs.now queued

-- what the frame at a place asks for; nothing where there is none
abbrev pub asked_at : List QueuedData → ℕ → List Pair
asked_at queued place = (slice_index_or queued place (record { request = record { 0 = 0 }; buffer = 0; asked = [] })).asked

-- Ranges, values and grabs differ from those before in some clusters at most: every control of another cluster has its range and its value, and is
-- grabbed or not, as it was.
pub record DifferOnlyIn (plan : PlanData) (clusters : List ℕ) (earlier : List Control) (before : Values) (held : Grabs) (controls : List Control) (values : Values) (grabs : Grabs) : Type 0 where
  pub many : length before ≡ length values
  pub ranges_stay : (c : ℕ) → is_in_one_of clusters (cluster_of plan c) ≡ false → control_in earlier c ≡ control_in controls c
  pub values_stay : DifferIn plan clusters before values
  pub grabs_stay : (c : ℕ) → is_in_one_of clusters (cluster_of plan c) ≡ false → is_grabbed held c ≡ is_grabbed grabs c

-- The same of values alone: there are as many as before.
pub record ValuesDifferOnlyIn (plan : PlanData) (clusters : List ℕ) (before values : Values) : Type 0 where
  pub many : length before ≡ length values
  pub values_stay : DifferIn plan clusters before values
