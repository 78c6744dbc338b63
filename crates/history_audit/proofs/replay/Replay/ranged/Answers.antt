use Rattle.std.proofs.Common.{◌<◌, List, length, ap, arith, ◌∙◌}
use Rattle.device_history.proofs.ControlsLemmas.{ranges_of}
use Rattle.ctrl_settle.specs.Control.{Control}
use Rattle.ctrl_clusters.specs.ControlsData.{ControlsData}
use Rattle.ctrl_handlers.specs.Plan.{control_in}
use Rattle.history_audit.proofs.MadeLemmas.{replay_ready}
use Rattle.history_audit.proofs.replay.Replay.ranged.Goals as goal

-- the control is there
pub range-requires : goal.range-requires
range-requires g c =
    let r = c.self.inside in
    omega (arith, c.control_count.ensures.count, c.if-control-control_count.false, (replay_ready g.D.Validates.verdict r.plan.now r.steps.now r.count _ c.self.invariant).ranges.many, ap (λ (d : ControlsData). length d.ranges) c.controls.ensures)

-- its range is what the steps make of it
pub returns : goal.returns
returns g c =
    let r = c.self.inside in
    let there : c.args.control < length r.plan.now.controls = omega (arith, c.control_count.ensures.count, c.if-control-control_count.false) in
    rw (← c.self.view_is) (there, c.range.ensures ∙ ap (λ (l : List Control). control_in l c.args.control) (ap (λ (d : ControlsData). d.ranges) c.controls.ensures ∙ (ranges_of c.self.invariant.made.controls)))
