-- What the raises between two moments make of the events of a file handle is what the step between them makes of them.
use Rattle.std.proofs.Common.{◌≡◌, ◌∙◌, ℕ, [], List, length, Option, refl, ap, sym}
use Rattle.std.specs.List.{range_with_len}
use Rattle.std.specs.Option.{option_map}
use Rattle.history.specs.declared.entry.Entry.{Entry}
use Rattle.ctrl_types.specs.declared.ids.FhId.{FhId}
use Rattle.ctrl_types.specs.declared.ids.Pair.{Pair}
use Rattle.ctrl_calls.specs.Meanings.{Verdicts}
use Rattle.ctrl_clusters.specs.ControlsData.{ControlsData}
use Rattle.ctrl_events.specs.declared.event.Payload.{Payload}
use Rattle.ctrl_events.specs.Events.{FileEvents, after_subscribe, only_at}
use Rattle.ctrl_handlers.specs.Plan.{PlanData, control}
use Rattle.ctrl_raises.specs.Raises.{changed_between, initial_changes, needing_feedback, payload_at, raised_all}
use Rattle.ctrl_types.specs.declared.sub_flags.SubFlags.{SubFlags}
use Rattle.device_history.specs.declared.ask.Step.{Step}
use Rattle.device_history.specs.declared.ask.Step.TheVariants as steps
use Rattle.device_history.specs.Steps.{Past}
use Rattle.device_history.specs.Controls.{controls_now}
use Rattle.device_history.specs.Snapshots.{begun_pairs}
use Rattle.device_history.specs.EventSteps.{AreAround, events_after, events_by}
use Rattle.device_history.proofs.ControlsLemmas.{controls_stepped}
use Rattle.device_history.proofs.RaiseLaw.{set_raises, begin_raises, grab_raises, subscribe_tells}
use Rattle.device_parts.specs.Sources.{IsSourceOf}

-- the raises between two moments, where pairs were applied
abbrev raised_between : PlanData → ControlsData → ControlsData → List Pair → Option FhId → ℕ → FileEvents → FileEvents
raised_between plan before after pairs from j f =
    raised_all (changed_between plan before after pairs) (payload_at plan after) (λ c. needing_feedback (option_map (λ fh. fh.0) from) pairs (changed_between plan before after pairs c) c) j (range_with_len 0 (length plan.controls)) f

-- those of a step that raises what it changes
pub raised_step : (verdicts : Verdicts) (plan : PlanData) (e : Entry Step) (older : Past) (before after : ControlsData) (pairs : List Pair) (from : Option FhId) (fh : FhId) (f : FileEvents)
    → AreAround verdicts plan e older before after → IsSourceOf verdicts plan older e.step pairs from
    → raised_all (changed_between plan before after pairs) (payload_at plan after) (λ c. needing_feedback (option_map (λ fh. fh.0) from) pairs (changed_between plan before after pairs c) c) fh.0 (range_with_len 0 (length plan.controls)) f
    ≡ events_after verdicts plan e older fh f
raised_step verdicts plan e older before after pairs from fh f around given = by e.step refl given
  where
    by : (step : Step) → e.step ≡ step → IsSourceOf verdicts plan older step pairs from → raised_between plan before after pairs from fh.0 f ≡ events_by verdicts plan e older fh e.step f
    by (steps.Set g own) is given =
        ap (λ (ps : List Pair). raised_between plan before after ps from fh.0 f) given.0 ∙ ap (λ (o : Option FhId). raised_between plan before after own o fh.0 f) given.1
        ∙ set_raises verdicts plan e older before after g own fh (range_with_len 0 (length plan.controls)) f is around ∙ sym (ap (λ (s : Step). events_by verdicts plan e older fh s f) is)
    by (steps.Begin r) is given =
        ap (λ (ps : List Pair). raised_between plan before after ps from fh.0 f) given.0 ∙ ap (λ (o : Option FhId). raised_between plan before after (begun_pairs verdicts plan older r.0) o fh.0 f) given.1
        ∙ begin_raises verdicts plan e older before after r fh (range_with_len 0 (length plan.controls)) f is around ∙ sym (ap (λ (s : Step). events_by verdicts plan e older fh s f) is)
    by (steps.Grab c on) is given =
        ap (λ (ps : List Pair). raised_between plan before after ps from fh.0 f) given.0 ∙ ap (λ (o : Option FhId). raised_between plan before after [] o fh.0 f) given.1
        ∙ grab_raises verdicts plan e older before after c on fh (range_with_len 0 (length plan.controls)) f is around ∙ sym (ap (λ (s : Step). events_by verdicts plan e older fh s f) is)
    by _ is given = absurd given

-- what a subscription makes of them
pub subscribed_step : (verdicts : Verdicts) (plan : PlanData) (e : Entry Step) (older : Past) (at : ControlsData) (g : FhId) (c : ℕ) (flags : SubFlags) (fh : FhId) (f : FileEvents)
    → e.step ≡ steps.Subscribe g c flags → at ≡ controls_now verdicts plan older
    → only_at g.0 (after_subscribe c flags (initial_changes (control plan c).flags) (payload_at plan at c)) fh.0 f ≡ events_after verdicts plan e older fh f
subscribed_step verdicts plan e older at g c flags fh f is now_is =
    ap (λ (x : Payload). only_at g.0 (after_subscribe c flags (initial_changes (control plan c).flags) x) fh.0 f)
    (subscribe_tells verdicts plan e older at c (now_is ∙ sym (controls_stepped verdicts plan e older _ is)))
    ∙ sym (ap (λ (s : Step). events_by verdicts plan e older fh s f) is)
