use Rattle.std.proofs.Common.{◌≡◌, [], refl, ap, subst, ◌∙◌}
use Rattle.ctrl_clusters.specs.Moments.{parts}
use Rattle.ctrl_clusters.specs.Rows.{Values}
use Rattle.ctrl_events.specs.Events.{events_of}
use Rattle.ctrl_handlers.specs.Plan.{PlanData}
use Rattle.device_history.specs.EventSteps.{events_after}
use Rattle.device_history.specs.FrameSteps.{frames_changed}
use Rattle.device_history.specs.Controls.{controls_now}
use Rattle.device_history.proofs.ControlsLemmas.{all_of}
use Rattle.device_parts.proofs.MakesLemmas.{of_both, makes_left}
use Rattle.device_parts.proofs.state.State.change_with_forecasts.Goals as goal

-- the requests, the queue and the events are what the step makes of them
pub returns-clause-makes : goal.returns-clause-makes
returns-clause-makes g c = rw (← c.self.view_is)
    (of_both c.change_with_forecasts.result c.change_with_forecasts.ensures.frames c.change_with_forecasts.ensures.events
    (λ frames events.
    makes_left g.D.Validates.verdict c.args.plan.now c.args.number c.args.step.now _ _ c.requires.leaves refl refl
    (frames ∙ ap (λ (v : Values). frames_changed v [] c.args.number c.args.step.now c.self.inside.frames) c.at.ensures.values)
    (λ e older is now_is fh.
    subst
    (λ (p : PlanData). parts c.at.result ≡ controls_now g.D.Validates.verdict p older
    → events_of c.change_with_forecasts.new.events fh.0 ≡ events_after g.D.Validates.verdict p e older fh (events_of c.self.inside.events fh.0))
    c.at.ensures.plan (λ same. events g.D.Validates.verdict e older is same fh) (all_of {a = parts c.at.result} {b = c.self.inside.controls} c.at.ensures.ranges c.at.ensures.values c.at.ensures.grabs ∙ now_is))))
