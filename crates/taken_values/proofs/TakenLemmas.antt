-- After every legal history each control takes its present value as it is, and so each that a queued frame will have.
use Rattle.std.proofs.Common.{◌≡◌, ◌≢◌, ℕ, zero, suc, ◌<◌, true, false, List, [], ◌∷◌, length, Some, nat_eq, slice_get, slice_set, inl, inr, ◌⊎◌, sym, subst}
use Rattle.std.proofs.lemmas.Bool.Decides.{eqb_tells}
use Rattle.std.proofs.lemmas.List.{get_or-map, get_or-set_other, get_or-set_same}
use Rattle.ctrl_types.specs.Values.{zero_value}
use Rattle.ctrl_types.specs.declared.value.CtrlValue.{CtrlValue}
use Rattle.ctrl_calls.specs.Meanings.{Verdicts}
use Rattle.ctrl_settle.specs.Control.{Control, default_of}
use Rattle.ctrl_settle.specs.Faults.{IsWellFormed}
use Rattle.ctrl_settle.specs.Settle.{IsSettled, settled_anew}
use Rattle.ctrl_settle.proofs.Settling.{default_settles, settled_anew-settled}
use Rattle.ctrl_handlers.specs.Plan.{IsPlan, PlanData, control_in, no_control}
use Rattle.ctrl_clusters.specs.Overlay.{overlay}
use Rattle.ctrl_clusters.specs.Ranges.{modified}
use Rattle.ctrl_clusters.specs.Rows.{Grabs, Values, value_at}
use Rattle.ctrl_clusters.proofs.OverlayLemmas.{length_overlay}
use Rattle.ctrl_forecast.specs.Forecasts.{QueuedData, forecast_over, forecasts}
use Rattle.ctrl_forecast.specs.declared.board.Forecast.{Forecast}
use Rattle.device_history.specs.declared.ask.Step.{Step}
use Rattle.device_history.specs.declared.ask.Step.TheVariants as steps
use Rattle.device_history.specs.Forecasts.{forecast, queued_frames}
use Rattle.device_history.specs.Grabs.{grabbed}
use Rattle.device_history.specs.Legal.{IsLegal, MayFollow}
use Rattle.device_history.specs.Ranges.{control_with_range, ranges_after, ranges_now}
use Rattle.device_history.specs.Requests.{asked}
use Rattle.device_history.specs.Steps.{Past}
use Rattle.device_history.specs.Values.{defaults, now, values_after}
use Rattle.device_history.proofs.PastLemmas.{now_more, now_start}
use Rattle.device_history.proofs.PresentLemmas.{length_now}
use Rattle.device_history.proofs.RangeLemmas.{ranges_more, ranges_own, ranges_start}
use Rattle.taken_values.specs.Kinds.{IsValueOf}
use Rattle.taken_values.proofs.KindLemmas.{kept}
use Rattle.taken_values.proofs.RangeLemmas.{range_fits, sound_now}
use Rattle.taken_values.proofs.RowLemmas.{AreSound, overlay_taken}

-- a control takes its value among values as it is
abbrev Takes : List Control → Values → ℕ → Type 0
Takes controls values c = IsSettled (control_in controls c) (value_at values c)

-- where one control has another range, and its value settled anew by it
anew_taken : (controls : List Control) (values : Values) (d : ℕ) (changed : Control) (c : ℕ) → d < length controls → d < length values → IsWellFormed changed → Takes controls values c
    → Takes (modified controls d changed) (slice_set values d (settled_anew changed (value_at values d))) c
anew_taken controls values d changed c there within well own = by (eqb_tells c d)
  where
    value : CtrlValue
    value = settled_anew changed (value_at values d)

    by : (nat_eq c d ≡ true × (c ≡ d)) ⊎ (nat_eq c d ≡ false × (c ≢ d)) → Takes (modified controls d changed) (slice_set values d value) c
    by (inl is) =
        subst (Takes (modified controls d changed) (slice_set values d value)) (sym is.1)
        (subst (λ ctrl. IsSettled ctrl (value_at (slice_set values d value) d)) (sym (get_or-set_same controls d changed no_control there))
        (subst (IsSettled changed) (sym (get_or-set_same values d value zero_value within)) (settled_anew-settled changed (value_at values d) well)))
    by (inr is) =
        subst (λ ctrl. IsSettled ctrl (value_at (slice_set values d value) c)) (sym (get_or-set_other controls d c changed no_control is.1))
        (subst (IsSettled (control_in controls c)) (sym (get_or-set_other values d c value zero_value is.1)) own)

-- behind a step that may follow
after_step : (verdicts : Verdicts) (plan : PlanData) (older : Past) (step : Step) (values : Values) (c : ℕ) → MayFollow verdicts plan older step → AreSound (ranges_now plan older) → length values ≡ length plan.controls → c < length values
    → Takes (ranges_now plan older) values c → Takes (ranges_after step (ranges_now plan older)) (values_after verdicts plan older step values) c
after_step verdicts plan older (steps.ModifyRange d low high apart default_value) values c may sound many lt own =
    let fits = range_fits verdicts plan older d low high apart default_value may in
    anew_taken (ranges_now plan older) values d (control_with_range (ranges_now plan older) d low high apart default_value) c (subst (λ n. d < n) (sym (ranges_own plan older).many) fits.0) (subst (λ n. d < n) (sym many) fits.0) fits.1 own
after_step verdicts plan older (steps.Set fh pairs) values c may sound many lt own = overlay_taken verdicts plan (ranges_now plan older) values (grabbed plan older) pairs c sound lt own
after_step verdicts plan older (steps.Begin r) values c may sound many lt own = overlay_taken verdicts plan (ranges_now plan older) values (grabbed plan older) (asked plan older r.0) c sound lt own
after_step verdicts plan older _ values c may sound many lt own = own

-- at first each control has its default
start_taken : (plan : PlanData) (c : ℕ) → AreSound plan.controls → c < length plan.controls → Takes plan.controls (defaults plan) c
start_taken plan c sound lt = subst (IsSettled (control_in plan.controls c)) (sym (get_or-map default_of plan.controls c no_control zero_value lt)) (default_settles (control_in plan.controls c) (sound c))

-- after every legal history
pub now_taken : (verdicts : Verdicts) (plan : PlanData) (older : Past) (c : ℕ) → IsPlan plan → IsLegal verdicts plan older → c < length plan.controls → IsSettled (control_in (ranges_now plan older) c) (value_at (now verdicts plan older) c)
unfolding IsLegal
now_taken verdicts plan [] c is legal lt =
    subst (λ values. Takes (ranges_now plan []) values c) (sym (now_start verdicts plan))
    (subst (λ controls. Takes controls (defaults plan) c) (sym (ranges_start plan)) (start_taken plan c (subst AreSound (ranges_start plan) (sound_now verdicts plan [] is legal)) lt))
now_taken verdicts plan (e ∷ older) c is legal lt =
    let many = length_now verdicts plan older in
    subst (λ values. Takes (ranges_now plan (e ∷ older)) values c) (sym (now_more verdicts plan e older))
    (subst (λ controls. Takes controls (values_after verdicts plan older e.step (now verdicts plan older)) c) (sym (ranges_more plan e older))
    (after_step verdicts plan older e.step (now verdicts plan older) c legal.1 (sound_now verdicts plan older is legal.0) many (subst (λ n. c < n) (sym many) lt) (now_taken verdicts plan older c is legal.0 lt)))

same_row : (a b : Forecast) → Some a ≡ Some b → a ≡ b
same_row a b e = cc

-- what queued frames will have over values
queued_taken : (verdicts : Verdicts) (plan : PlanData) (controls : List Control) (values : Values) (grabs : Grabs) (queued : List QueuedData) (place c : ℕ) (row : Forecast) → AreSound controls → c < length values → Takes controls values c
    → slice_get (forecasts verdicts plan controls values grabs queued) place ≡ Some row → Takes controls row.values c
unfolding forecasts
queued_taken verdicts plan controls values grabs [] place c row sound lt own there = absurd (cc)
queued_taken verdicts plan controls values grabs (q ∷ queued) zero c row sound lt own there =
    subst (λ (r : Forecast). Takes controls r.values c) (same_row (forecast_over verdicts plan controls values grabs q) row there) (overlay_taken verdicts plan controls values grabs q.asked c sound lt own)
queued_taken verdicts plan controls values grabs (q ∷ queued) (suc place) c row sound lt own there =
    queued_taken verdicts plan controls (overlay verdicts plan controls values grabs q.asked) grabs queued place c row sound (subst (λ n. c < n) (sym (length_overlay verdicts plan controls values grabs q.asked)) lt)
    (overlay_taken verdicts plan controls values grabs q.asked c sound lt own) there

pub forecast_taken : (verdicts : Verdicts) (plan : PlanData) (older : Past) (place c : ℕ) (row : Forecast) → IsPlan plan → IsLegal verdicts plan older → c < length plan.controls → slice_get (forecast verdicts plan older) place ≡ Some row
    → IsSettled (control_in (ranges_now plan older) c) (value_at row.values c)
forecast_taken verdicts plan older place c row is legal lt there =
    queued_taken verdicts plan (ranges_now plan older) (now verdicts plan older) (grabbed plan older) (queued_frames plan older) place c row (sound_now verdicts plan older is legal)
    (subst (λ n. c < n) (sym (length_now verdicts plan older)) lt) (now_taken verdicts plan older c is legal lt) there

-- so they are values of the controls' kinds
pub now_kinds : (verdicts : Verdicts) (plan : PlanData) (older : Past) (c : ℕ) → IsPlan plan → IsLegal verdicts plan older → c < length plan.controls → IsValueOf (control_in (ranges_now plan older) c) (value_at (now verdicts plan older) c)
now_kinds verdicts plan older c is legal lt = kept (control_in (ranges_now plan older) c) (value_at (now verdicts plan older) c) (sound_now verdicts plan older is legal c) (now_taken verdicts plan older c is legal lt)

pub forecast_kinds : (verdicts : Verdicts) (plan : PlanData) (older : Past) (place c : ℕ) (row : Forecast) → IsPlan plan → IsLegal verdicts plan older → c < length plan.controls → slice_get (forecast verdicts plan older) place ≡ Some row
    → IsValueOf (control_in (ranges_now plan older) c) (value_at row.values c)
forecast_kinds verdicts plan older place c row is legal lt there = kept (control_in (ranges_now plan older) c) (value_at row.values c) (sound_now verdicts plan older is legal c) (forecast_taken verdicts plan older place c row is legal lt there)
