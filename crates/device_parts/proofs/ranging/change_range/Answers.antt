use Rattle.std.proofs.Common.{◌≡◌, ◌∙◌, [], None, ap, length, slice_set}
use Rattle.std.specs.List.{range_with_len}
use Rattle.ctrl_types.specs.declared.value.CtrlValue.{CtrlValue}
use Rattle.ctrl_settle.specs.Control.{Control}
use Rattle.ctrl_settle.specs.Settle.{settled_anew}
use Rattle.ctrl_handlers.specs.Plan.{PlanData, control_in}
use Rattle.ctrl_clusters.specs.ControlsData.{ControlsData}
use Rattle.ctrl_clusters.specs.Moments.{parts}
use Rattle.ctrl_events.specs.Events.{FileEvents, events_of}
use Rattle.ctrl_raises.specs.Raises.{before_range, changed_between, payload_at, raised_all}
use Rattle.device_parts.proofs.RangingLemmas.{moved, ranged_step}
use Rattle.device_parts.proofs.ranging.change_range.Goals as goal

pub returns-clause-events : goal.returns-clause-events
returns-clause-events g c verdicts e older low high apart default_value is own now_is fh =
    c.raise_range.ensures fh.0
    ∙ ap (λ (p : PlanData). raised p (parts c.at.result) c.range.result.now c.value-value.result) c.at.ensures.plan
    ∙ ap (λ (m : ControlsData). raised c.args.plan.now m c.range.result.now c.value-value.result) after
    ∙ ap (λ (x : Control). raised c.args.plan.now left x c.value-value.result) c.range.ensures
    ∙ ap (raised c.args.plan.now left (control_in d.ranges c.args.control)) c.value-value.ensures
    ∙ ranged_step verdicts c.args.plan.now e older d c.args.control low high apart default_value c.args.changed fh (events_of c.args.events.now fh.0) is own now_is
  where
    d : ControlsData
    d = c.args.controls.now

    left : ControlsData
    left = moved d c.args.control c.args.changed

    raised : PlanData → ControlsData → Control → CtrlValue → FileEvents
    raised p m x w =
        raised_all (changed_between p (before_range m c.args.control x w) m []) (payload_at p m) (λ d. None) fh.0 (range_with_len 0 (length p.controls)) (events_of c.args.events.now fh.0)

    after : parts c.at.result ≡ left
    after = λ i. record {
      ranges = (c.at.ensures.ranges ∙ ap (λ (m : ControlsData). m.ranges) c.modify_range.ensures.parts) i;
      values = (c.at.ensures.values ∙ ap (λ (m : ControlsData). m.values) c.modify_range.ensures.parts ∙ ap (slice_set d.values c.args.control) (c.settle_anew.ensures.value ∙ ap (settled_anew c.args.changed) c.value-value.ensures)) i;
      grabs = (c.at.ensures.grabs ∙ ap (λ (m : ControlsData). m.grabs) c.modify_range.ensures.parts) i;
    }
