-- What a range change makes of ranges, values and events is what its step makes of them.
use Rattle.std.proofs.Common.{◌≡◌, ◌∙◌, ℕ, zero, suc, ℤ, List, [], ◌∷◌, length, None, slice_set, get_or, refl, ap, sym}
use Rattle.std.specs.List.{range_with_len}
use Rattle.ctrl_types.specs.Values.{zero_value}
use Rattle.history.specs.declared.entry.Entry.{Entry}
use Rattle.ctrl_types.specs.declared.ids.FhId.{FhId}
use Rattle.ctrl_calls.specs.Meanings.{Verdicts}
use Rattle.ctrl_settle.specs.Control.{Control, with_range}
use Rattle.ctrl_settle.specs.Settle.{settled_anew}
use Rattle.ctrl_handlers.specs.Plan.{PlanData, control_in, no_control}
use Rattle.ctrl_clusters.specs.ControlsData.{ControlsData, given_range}
use Rattle.ctrl_clusters.specs.Rows.{value_at}
use Rattle.ctrl_events.specs.Events.{FileEvents}
use Rattle.ctrl_raises.specs.Raises.{before_range, changed_between, payload_at, raised_all}
use Rattle.device_history.specs.declared.ask.Step.{Step}
use Rattle.device_history.specs.declared.ask.Step.TheVariants as steps
use Rattle.device_history.specs.Steps.{Past}
use Rattle.device_history.specs.Controls.{controls_now}
use Rattle.device_history.specs.EventSteps.{AreAround, events_after, events_by}
use Rattle.device_history.proofs.ControlsLemmas.{all_of, controls_stepped}
use Rattle.device_history.proofs.RaiseLaw.{range_raises}

-- what is set and set back is as it was
set_back : {A : Type 0} (l : List A) (c : ℕ) (x d : A) → slice_set (slice_set l c x) c (get_or l c d) ≡ l
set_back [] c x d = refl
set_back (a ∷ l) zero x d = refl
set_back (a ∷ l) (suc c) x d = ap (λ (t : List _). a ∷ t) (set_back l c x d)

-- the moment behind a range change
abbrev pub moved : ControlsData → ℕ → Control → ControlsData
moved m c changed = given_range m c changed (settled_anew changed (value_at m.values c))

-- the moments before and after one
around_range : (verdicts : Verdicts) (plan : PlanData) (e : Entry Step) (older : Past) (m : ControlsData) (c : ℕ) (low high : ℤ) (apart : ℕ) (default_value : ℤ) (changed : Control)
    → e.step ≡ steps.ModifyRange c low high apart default_value → changed ≡ with_range (control_in m.ranges c) low high apart default_value → m ≡ controls_now verdicts plan older
    → AreAround verdicts plan e older (before_range (moved m c changed) c (control_in m.ranges c) (value_at m.values c)) (moved m c changed)
around_range verdicts plan e older m c low high apart default_value changed is own now_is = record {
  old = all_of {a = before_range (moved m c changed) c (control_in m.ranges c) (value_at m.values c)} {b = m}
      (set_back m.ranges c changed no_control) (set_back m.values c (settled_anew changed (value_at m.values c)) zero_value) refl ∙ now_is;
  new = ap (moved m c) own ∙ ap (λ (d : ControlsData). moved d c (with_range (control_in d.ranges c) low high apart default_value)) now_is ∙ sym (controls_stepped verdicts plan e older _ is);
}

-- what is raised between them
pub ranged_step : (verdicts : Verdicts) (plan : PlanData) (e : Entry Step) (older : Past) (m : ControlsData) (c : ℕ) (low high : ℤ) (apart : ℕ) (default_value : ℤ) (changed : Control) (fh : FhId) (f : FileEvents)
    → e.step ≡ steps.ModifyRange c low high apart default_value → changed ≡ with_range (control_in m.ranges c) low high apart default_value → m ≡ controls_now verdicts plan older
    → raised_all (changed_between plan (before_range (moved m c changed) c (control_in m.ranges c) (value_at m.values c)) (moved m c changed) []) (payload_at plan (moved m c changed))
    (λ d. None) fh.0 (range_with_len 0 (length plan.controls)) f
    ≡ events_after verdicts plan e older fh f
ranged_step verdicts plan e older m c low high apart default_value changed fh f is own now_is =
    range_raises verdicts plan e older (before_range (moved m c changed) c (control_in m.ranges c) (value_at m.values c)) (moved m c changed) c low high apart default_value fh (range_with_len 0 (length plan.controls)) f is
    (around_range verdicts plan e older m c low high apart default_value changed is own now_is)
    ∙ sym (ap (λ (s : Step). events_by verdicts plan e older fh s f) is)
