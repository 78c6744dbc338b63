-- Queued frames, one after another.
use Rattle.std.proofs.Common.{◌≡◌, ℕ, suc, ◌-◌, Option, Some, None, slice_get, drop, ◌+◌, ◌<◌, ◌≤◌, take, get_or, sym, arith, List, [], ◌∷◌, ◌++◌, length, refl, ap, ◌∙◌}
use Rattle.ctrl_calls.specs.Meanings.{Verdicts}
use Rattle.ctrl_settle.specs.Control.{Control}
use Rattle.ctrl_handlers.specs.Plan.{PlanData}
use Rattle.ctrl_clusters.specs.Rows.{Values, Grabs}
use Rattle.ctrl_clusters.specs.Overlay.{overlay}
use Rattle.ctrl_clusters.proofs.OverlayLemmas.{length_overlay}
use Rattle.ctrl_forecast.specs.declared.board.Forecast.{Forecast}
use Rattle.ctrl_forecast.specs.Boards.{BoardData, board_of}
use Rattle.ctrl_forecast.specs.Forecasts.{QueuedData, forecast_over, forecasts, touched_by_all, values_behind}
use Rattle.ctrl_forecast.specs.Touched.{touched_count}
use Rattle.std.proofs.lemmas.List.Sums.{sum_by_more, sum_by-take-le}

-- one more frame stands over what the last one leaves
pub forecasts_more : (verdicts : Verdicts) (plan : PlanData) (controls : List Control) (grabs : Grabs) (values : Values) (qs : List QueuedData) (q : QueuedData)
    → forecasts verdicts plan controls values grabs (qs ++ q ∷ []) ≡ forecasts verdicts plan controls values grabs qs ++ forecast_over verdicts plan controls (values_behind values (forecasts verdicts plan controls values grabs qs)) grabs q ∷ []
unfolding forecasts
forecasts_more verdicts plan controls grabs values [] q = refl
forecasts_more verdicts plan controls grabs values (p ∷ qs) q =
    ap (λ (l : List Forecast). forecast_over verdicts plan controls values grabs p ∷ l) (forecasts_more verdicts plan controls grabs (overlay verdicts plan controls values grabs p.asked) qs q)

-- how many clusters one more touches
pub touched_next : (plan : PlanData) (qs : List QueuedData) (i : ℕ) (d : QueuedData) → i < length qs → touched_by_all plan (take (i + 1) qs) ≡ touched_by_all plan (take i qs) + touched_count plan (get_or qs i d).asked
touched_next plan qs i d lt = sum_by_more (λ (q : QueuedData). touched_count plan q.asked) qs i d lt

-- the first ones touch no more than all
pub touched_below : (plan : PlanData) (qs : List QueuedData) (i : ℕ) → touched_by_all plan (take i qs) ≤ touched_by_all plan qs
touched_below plan qs i = sum_by-take-le (λ (q : QueuedData). touched_count plan q.asked) qs i

-- the values of the last frame
pub values_at_last : (values : Values) (rows : List Forecast) (row : Forecast) → Some row ≡ slice_get rows (length rows - 1) → row.values ≡ values_behind values rows
values_at_last values [] row h = cc
values_at_last values (r ∷ []) row h = ap values_of h
  where
    values_of : Option Forecast → Values
    values_of None = []
    values_of (Some r) = r.values
values_at_last values (r ∷ s ∷ rows) row h =
    let at : length (r ∷ s ∷ rows) - 1 ≡ suc (length (s ∷ rows) - 1) = omega arith in
    values_at_last r.values (s ∷ rows) row (h ∙ ap (slice_get (r ∷ s ∷ rows)) at)

-- without the first frame, the others stand over what it leaves
pub popped : (verdicts : Verdicts) (plan : PlanData) (controls : List Control) (grabs : Grabs) (values : Values) (q : QueuedData) (qs : List QueuedData)
    → ◌≡◌ {A = BoardData} (record { queued = drop 1 (board_of verdicts plan controls values grabs (q ∷ qs)).queued; named = drop 1 (board_of verdicts plan controls values grabs (q ∷ qs)).named; forecasts = drop 1 (board_of verdicts plan controls values grabs (q ∷ qs)).forecasts })
    (board_of verdicts plan controls (overlay verdicts plan controls values grabs q.asked) grabs qs)
unfolding forecasts
popped verdicts plan controls grabs values q qs = refl

-- a board without its first frame
abbrev pub rest_of : BoardData → BoardData
rest_of b = record { queued = drop 1 b.queued; named = drop 1 b.named; forecasts = drop 1 b.forecasts }

-- what the first frame leaves is what the others stand over
pub begun : (verdicts : Verdicts) (plan : PlanData) (controls : List Control) (grabs : Grabs) (values : Values) (qs : List QueuedData) (f : Forecast)
    → Some f ≡ slice_get (forecasts verdicts plan controls values grabs qs) 0
    → (length f.values ≡ length values) × (◌≡◌ {A = BoardData} (rest_of (board_of verdicts plan controls values grabs qs)) (board_of verdicts plan controls f.values grabs (drop 1 qs)))
unfolding forecasts
begun verdicts plan controls grabs values [] f is = cc
begun verdicts plan controls grabs values (q ∷ qs) f is =
    let left : f.values ≡ overlay verdicts plan controls values grabs q.asked = ap values_of is in
    (ap length left ∙ length_overlay verdicts plan controls values grabs q.asked, popped verdicts plan controls grabs values q qs ∙ ap (λ (v : Values). board_of verdicts plan controls v grabs qs) (sym left))
  where
    values_of : Option Forecast → Values
    values_of None = []
    values_of (Some g) = g.values
