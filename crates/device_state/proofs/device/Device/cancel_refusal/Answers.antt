use Rattle.std.proofs.Common.{refl, ap, ◌∙◌}
use Rattle.frame_queue.specs.Frames.{cancel_check}
use Rattle.device_state.proofs.EnterLemmas.{found}
use Rattle.device_state.proofs.device.Device.cancel_refusal.Goals as goal

pub returns : goal.returns
returns g c =
    let device = c.self.inside in
    rw (← c.self.view_is) (c.cancel_refusal.ensures ∙ ap cancel_check (found g.D.Validates.verdict g.D.Notifies.told device.plan device.steps.items _ c.args.request.0 c.self.invariant _ c.frames.ensures _ refl))
