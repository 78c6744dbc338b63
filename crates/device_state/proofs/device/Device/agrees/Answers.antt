use Rattle.std.proofs.Common.{◌≡◌, ◌↔◌, IsTrue, ap, subst, sym, ◌∙◌}
use Rattle.history.specs.Past.{past}
use Rattle.ctrl_handlers.specs.Plan.{PlanData}
use Rattle.ctrl_clusters.specs.ControlsData.{ControlsData, as_one}
use Rattle.ctrl_events.specs.Events.{EventsData, events_of}
use Rattle.ctrl_forecast.specs.Boards.{BoardData}
use Rattle.device_history.specs.EventSteps.{AreEvents}
use Rattle.history_audit.specs.Scratch.{HasParts}
use Rattle.history_audit.proofs.ScratchLemmas.{events_made}
use Rattle.device_state.proofs.AuditLemmas.{agrees_both}
use Rattle.device_state.proofs.device.Device.agrees.Goals as goal

-- each part is its definition
pub returns : goal.returns
returns g c =
    let d = c.self.inside in
    let made = c.self.invariant.made in
    let plan : c.at.result.plan.now ≡ d.plan = rw (← c.self.view_is) at c.at.ensures.plan in
    let controls : ControlsData = as_one c.at.result.ranges.now c.at.result.values.now c.at.result.grabs.now in
    let has : IsTrue c.has_parts.result ↔ HasParts c.args.scratch.now.shown d.plan controls c.frames.result.now d.board.forecasts c.file_handles.result.now.entries c.events.result.now =
    subst (λ (p : PlanData). IsTrue c.has_parts.result ↔ HasParts c.args.scratch.now.shown p controls c.frames.result.now d.board.forecasts c.file_handles.result.now.entries c.events.result.now) plan c.has_parts.ensures in
    let both =
    agrees_both g.D.Validates.verdict d.plan (past d.steps.items) c.args.scratch.now.shown controls c.frames.result.now d.board.forecasts c.file_handles.result.now.entries c.events.result.now (rw (← c.self.view_is) at c.at.ensures.ranges) (rw (← c.self.view_is) at c.at.ensures.values)
    (rw (← c.self.view_is) at c.at.ensures.grabs) (c.frames.ensures ∙ made.frames) (ap (λ (b : BoardData). b.forecasts) c.self.invariant.board)
    (events_made g.D.Validates.verdict d.plan (past d.steps.items) c.events.result.now c.file_handles.result.now.entries (c.file_handles.ensures ∙ made.file_handles)
    (λ fh. subst (λ (e : EventsData). AreEvents g.D.Validates.verdict d.plan (past d.steps.items) fh (events_of e fh.0)) (sym c.events.ensures) (made.events fh))) in
    rw (← c.self.view_is) (λ h. both.0 (has.0 h), λ agrees. has.1 (both.1 agrees))
