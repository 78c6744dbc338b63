-- What the board says of a queued frame, for the reasons of its clusters.
use Rattle.std.proofs.Common.{◌≡◌, ◌≢◌, ◌<◌, ◌+◌, ◌==◌, ◌||◌, ◌⊎◌, inl, inr, ℕ, zero, suc, true, false, Bool, List, [], ◌∷◌, length, filter, cond, Option, None, Some, is_some, Err, nat_eq, ap, arith, refl, slice_get, sym, ◌∙◌}
use Rattle.std.proofs.lemmas.Bool.Decides.{eqb_tells}
use Rattle.std.proofs.lemmas.Option.{slice_get-map}
use Rattle.std.specs.List.{list_any, range_with_len}
use Rattle.std.specs.Option.{option_map}
use Rattle.std.specs.Result.{is_err}
use Rattle.ctrl_types.specs.declared.errno.Errno.{Errno}
use Rattle.ctrl_types.specs.declared.ids.Pair.{Pair}
use Rattle.ctrl_calls.specs.Meanings.{Verdicts}
use Rattle.ctrl_settle.specs.Control.{Control}
use Rattle.ctrl_handlers.specs.Plan.{PlanData}
use Rattle.ctrl_clusters.specs.Rows.{Values, Grabs}
use Rattle.ctrl_clusters.specs.Overlay.{overlay, refused_clusters, row_after}
use Rattle.ctrl_clusters.proofs.OverlayLemmas.{length_overlay}
use Rattle.ctrl_forecast.specs.Forecasts.{QueuedData, forecasts}
use Rattle.ctrl_forecast.specs.declared.board.Forecast.{Forecast}
use Rattle.device_history.specs.Steps.{Past}
use Rattle.device_history.specs.Forecasts.{forecast, queued_frames}
use Rattle.device_history.specs.Ranges.{ranges_now}
use Rattle.device_history.specs.Grabs.{grabbed}
use Rattle.device_history.specs.Requests.{asked, state}
use Rattle.device_history.specs.Frames.{queue}
use Rattle.device_history.specs.Snapshots.{request, request_in}
use Rattle.device_history.specs.Values.{now}
use Rattle.device_history.proofs.PresentLemmas.{length_now}
use Rattle.device_history.proofs.StretchLemmas.{rows_queued}
use Rattle.device_state.proofs.ForecastLemmas.{queued_there}
use Rattle.req_book.specs.Refusals.{asked_answer}
use Rattle.req_book.specs.declared.state.RequestState.{RequestState}
use Rattle.frame_reasons.specs.declared.refused.ClusterReason.{ClusterReason}
use Rattle.history.specs.Past.{past}
use Rattle.device_state.specs.Device.{DeviceData}
use Rattle.frame_reasons.specs.Refused.{frame_reason, frames_in, reason_over, values_before_place}

-- each frame has as many values as the present ones
pub rows_long : (verdicts : Verdicts) (plan : PlanData) (controls : List Control) (grabs : Grabs) (values : Values) (qs : List QueuedData) (i : ℕ) (row : Forecast)
    → slice_get (forecasts verdicts plan controls values grabs qs) i ≡ Some row → length row.values ≡ length values
unfolding forecasts
rows_long verdicts plan controls grabs values [] i row h = cc
rows_long verdicts plan controls grabs values (q ∷ qs) zero row h = first (overlay verdicts plan controls values grabs q.asked) h (length_overlay verdicts plan controls values grabs q.asked)
  where
    first : (after : Values) → Some (record { request = q.request; buffer = q.buffer; values = after; refused = refused_clusters verdicts plan controls values grabs q.asked }) ≡ Some row → length after ≡ length values → length row.values ≡ length values
    first after is long = cc
rows_long verdicts plan controls grabs values (q ∷ qs) (suc i) row h =
    rows_long verdicts plan controls grabs (overlay verdicts plan controls values grabs q.asked) qs i row h ∙ length_overlay verdicts plan controls values grabs q.asked

-- a number that is kept of a range lies below its end
below_end : (p : ℕ → Bool) (k a n : ℕ) → list_any (λ j. nat_eq j k) (filter p (range_with_len a n)) ≡ true → k < a + n
below_end p k a zero h = cc
below_end p k a (suc n) h = by (p a) (eqb_tells a k) (below_end p k (a + 1) n) h
  where
    by : (b : Bool) → ((a == k) ≡ true × (a ≡ k)) ⊎ ((a == k) ≡ false × (a ≢ k)) → (list_any (λ j. nat_eq j k) (filter p (range_with_len (a + 1) n)) ≡ true → k < (a + 1) + n)
        → list_any (λ j. nat_eq j k) (cond b (a ∷ filter p (range_with_len (a + 1) n)) (filter p (range_with_len (a + 1) n))) ≡ true → k < a + suc n
    by true (inl e) rest g = omega (arith, e.1)
    by true (inr e) rest g = omega (arith, rest (others (nat_eq a k) e.0 g))
      where
        others : (b : Bool) → b ≡ false → (b || list_any (λ j. nat_eq j k) (filter p (range_with_len (a + 1) n))) ≡ true → list_any (λ j. nat_eq j k) (filter p (range_with_len (a + 1) n)) ≡ true
        others true is g = cc
        others false is g = g
    by false e rest g = omega (arith, rest g)

-- the refused clusters of each frame are clusters of the plan
rows_known : (verdicts : Verdicts) (plan : PlanData) (controls : List Control) (grabs : Grabs) (values : Values) (qs : List QueuedData) (i : ℕ) (row : Forecast) (k : ℕ)
    → slice_get (forecasts verdicts plan controls values grabs qs) i ≡ Some row → list_any (λ j. nat_eq j k) row.refused ≡ true → k < length plan.clusters
unfolding forecasts refused_clusters
rows_known verdicts plan controls grabs values [] i row k h among = cc
rows_known verdicts plan controls grabs values (q ∷ qs) zero row k h among =
    omega (arith, below_end (λ j. is_err (row_after verdicts plan controls values grabs q.asked j)) k 0 (length plan.clusters) (first (refused_clusters verdicts plan controls values grabs q.asked) h among))
  where
    first : (gone : List ℕ) → Some (record { request = q.request; buffer = q.buffer; values = overlay verdicts plan controls values grabs q.asked; refused = gone }) ≡ Some row → list_any (λ j. nat_eq j k) row.refused ≡ true → list_any (λ j. nat_eq j k) gone ≡ true
    first gone is g = cc
rows_known verdicts plan controls grabs values (q ∷ qs) (suc i) row k h among = rows_known verdicts plan controls grabs (overlay verdicts plan controls values grabs q.asked) qs i row k h among

-- the row of a frame that a device has queued has a value for each control
pub frame_long : (verdicts : Verdicts) (plan : PlanData) (older : Past) (i : ℕ) (row : Forecast) → slice_get (forecast verdicts plan older) i ≡ Some row → length row.values ≡ length plan.controls
frame_long verdicts plan older i row h =
    rows_long verdicts plan (ranges_now plan older) (grabbed plan older) (now verdicts plan older) (queued_frames plan older) i row h ∙ length_now verdicts plan older

pub frame_known : (verdicts : Verdicts) (plan : PlanData) (older : Past) (i : ℕ) (row : Forecast) (k : ℕ) → slice_get (forecast verdicts plan older) i ≡ Some row → list_any (λ j. nat_eq j k) row.refused ≡ true → k < length plan.clusters
frame_known verdicts plan older i row k h among = rows_known verdicts plan (ranges_now plan older) (grabbed plan older) (now verdicts plan older) (queued_frames plan older) i row k h among

-- the request of a queued frame is there, so that it tells what it asks for
pub frame_there : (verdicts : Verdicts) (plan : PlanData) (older : Past) (i : ℕ) (row : Forecast) (errno : Errno) → slice_get (forecast verdicts plan older) i ≡ Some row
    → asked_answer (request verdicts plan older row.request.0) ≡ Err errno → ⊥
unfolding request
frame_there verdicts plan older i row errno stood fails = by (state older row.request.0) (queued_there older i row.request.0 waits) fails
  where
    waits : Some row.request.0 ≡ slice_get (queue older) i
    waits = sym (sym (ap (λ ids. slice_get ids i) (rows_queued verdicts plan older)) ∙ slice_get-map (λ row. row.request.0) (forecast verdicts plan older) i ∙ ap (option_map (λ row. row.request.0)) stood)

    by : (o : Option RequestState) → is_some o ≡ true → asked_answer (option_map (request_in verdicts plan older row.request.0) o) ≡ Err errno → ⊥
    by None there h = cc
    by (Some s) there h = cc

-- a cluster that won't be refused has no reason
pub unrefused : (verdicts : Verdicts) (device : DeviceData) (place k : ℕ) (row : Forecast) → Some row ≡ slice_get (frames_in verdicts device) place
    → false ≡ list_any (λ j. nat_eq j k) row.refused → None ≡ frame_reason verdicts device place k
unrefused verdicts device place k row stood none = rw (← stood, ← none) refl

-- one that will be has the reason over the values before
pub refused_is : (verdicts : Verdicts) (device : DeviceData) (place k : ℕ) (row : Forecast) (values : Values) (pairs : List Pair) (reason : ClusterReason) → Some row ≡ slice_get (frames_in verdicts device) place
    → true ≡ list_any (λ j. nat_eq j k) row.refused → values ≡ values_before_place verdicts device place → pairs ≡ asked device.plan (past device.steps) row.request.0
    → reason ≡ reason_over device values pairs k → Some reason ≡ frame_reason verdicts device place k
refused_is verdicts device place k row values pairs reason stood among before asks is = rw (← stood, ← among, ← before, ← asks) (ap Some is)
