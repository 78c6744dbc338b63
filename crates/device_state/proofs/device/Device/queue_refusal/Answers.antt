use Rattle.std.proofs.Common.{ap, ◌∙◌}
use Rattle.req_book.specs.Refusals.{queue_check}
use Rattle.device_state.proofs.EnterLemmas.{found}
use Rattle.device_state.proofs.device.Device.queue_refusal.Goals as goal

pub returns : goal.returns
returns g c =
    let device = c.self.inside in
    rw (← c.self.view_is) (c.queue_refusal.ensures ∙ ap queue_check (found g.D.Validates.verdict g.D.Notifies.told device.plan device.steps.items _ c.args.request.0 c.self.invariant _ c.frames.ensures _ c.requests.ensures))
