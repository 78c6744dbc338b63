-- Frames that are queued, one behind another.
use Rattle.std.proofs.Common.{◌≡◌, ◌∙◌, ◌++◌, ◌-◌, ◌+◌, ℕ, nat_eq, cond, List, [], ◌∷◌, length, map, Option, Some, slice_get, refl, sym, ap}
use Rattle.std.specs.List.{position, position_from}
use Rattle.std.specs.Option.{option_map}
use Rattle.std.proofs.lemmas.Iterator.Adapters.{position_from-zero}
use Rattle.std.proofs.lemmas.List.{length-map, map-append}
use Rattle.std.proofs.lemmas.Option.{slice_get-map}
use Rattle.ctrl_calls.specs.Meanings.{Verdicts}
use Rattle.ctrl_settle.specs.Control.{Control}
use Rattle.ctrl_handlers.specs.Plan.{PlanData}
use Rattle.ctrl_clusters.specs.Rows.{Values, Grabs}
use Rattle.ctrl_clusters.specs.Overlay.{overlay}
use Rattle.ctrl_clusters.proofs.OverlayLemmas.{length_overlay}
use Rattle.ctrl_forecast.specs.declared.board.Forecast.{Forecast}
use Rattle.ctrl_forecast.specs.Forecasts.{QueuedData, forecast_over, forecasts, values_behind}
use Rattle.ctrl_forecast.specs.Boards.{BoardData, board_of, named_clusters}
use Rattle.ctrl_forecast.specs.Frames.{FrameData, board_seen, forecast_of, frame_over, queued_of}
use Rattle.ctrl_forecast.proofs.BoardLemmas.{values_at_last, forecasts_more}

-- the values of the last frame
pub frame_last : (values : Values) (fs : List FrameData) (f : FrameData) → Some f ≡ slice_get fs (length fs - 1) → f.values ≡ values_behind values (map forecast_of fs)
frame_last values fs f h =
    values_at_last values (map forecast_of fs) (forecast_of f)
    (ap (option_map forecast_of) h ∙ sym (slice_get-map forecast_of fs (length fs - 1)) ∙ ap (λ (n : ℕ). slice_get (map forecast_of fs) (n - 1)) (sym (length-map fs forecast_of)))

-- the values behind forecasts are as many as before them
pub behind_long : (verdicts : Verdicts) (plan : PlanData) (controls : List Control) (grabs : Grabs) (values : Values) (qs : List QueuedData) → length (values_behind values (forecasts verdicts plan controls values grabs qs)) ≡ length values
unfolding forecasts
behind_long verdicts plan controls grabs values [] = refl
behind_long verdicts plan controls grabs values (q ∷ qs) =
    behind_long verdicts plan controls grabs (overlay verdicts plan controls values grabs q.asked) qs ∙ length_overlay verdicts plan controls values grabs q.asked

-- one more frame is kept
pub kept_more : (verdicts : Verdicts) (plan : PlanData) (controls : List Control) (grabs : Grabs) (values : Values) (fs : List FrameData) (qs : List QueuedData) (q : QueuedData)
    → board_seen fs ≡ board_of verdicts plan controls values grabs qs
    → board_seen (fs ++ frame_over verdicts plan controls (values_behind values (map forecast_of fs)) grabs q ∷ []) ≡ board_of verdicts plan controls values grabs (qs ++ q ∷ [])
kept_more verdicts plan controls grabs values fs qs q kept = λ i. record { queued = asks i; named = names i; forecasts = has i }
  where
    new : FrameData
    new = frame_over verdicts plan controls (values_behind values (map forecast_of fs)) grabs q

    rows : map forecast_of fs ≡ forecasts verdicts plan controls values grabs qs
    rows = ap (λ (b : BoardData). b.forecasts) kept

    asks : map queued_of (fs ++ new ∷ []) ≡ qs ++ q ∷ []
    asks = map-append queued_of fs (new ∷ []) ∙ ap (λ (l : List QueuedData). l ++ q ∷ []) (ap (λ (b : BoardData). b.queued) kept)

    named_of : QueuedData → List ℕ
    named_of p = named_clusters plan p.asked

    names : map (λ (f : FrameData). f.named) (fs ++ new ∷ []) ≡ map (λ (p : QueuedData). named_clusters plan p.asked) (qs ++ q ∷ [])
    names =
        map-append (λ (f : FrameData). f.named) fs (new ∷ []) ∙ ap (λ (l : List (List ℕ)). l ++ named_clusters plan q.asked ∷ []) (ap (λ (b : BoardData). b.named) kept)
        ∙ sym (map-append named_of qs (q ∷ []))

    has : map forecast_of (fs ++ new ∷ []) ≡ forecasts verdicts plan controls values grabs (qs ++ q ∷ [])
    has =
        map-append forecast_of fs (new ∷ [])
        ∙ ap (λ (l : List Forecast). l ++ forecast_over verdicts plan controls (values_behind values l) grabs q ∷ []) rows
        ∙ sym (forecasts_more verdicts plan controls grabs values qs q)

-- the place of a request among frames, and among the frames as they were queued
place_from : (r i : ℕ) (frames : List FrameData) → position_from (λ f. nat_eq r f.request.0) i frames ≡ position_from (λ q. nat_eq r q.request.0) i (map queued_of frames)
place_from r i [] = refl
place_from r i (f ∷ frames) = ap (λ (o : Option ℕ). cond (nat_eq r f.request.0) (Some i) o) (place_from r (i + 1) frames)

pub place_among : (r : ℕ) (frames : List FrameData) → position (λ f. nat_eq r f.request.0) frames ≡ position (λ q. nat_eq r q.request.0) (map queued_of frames)
place_among r frames =
    position_from-zero (λ (f : FrameData). nat_eq r f.request.0) frames ∙ place_from r 0 frames ∙ sym (position_from-zero (λ (q : QueuedData). nat_eq r q.request.0) (map queued_of frames))
