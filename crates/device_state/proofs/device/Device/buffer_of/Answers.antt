use Rattle.std.proofs.Common.{ap, ◌∙◌}
use Rattle.req_book.specs.Refusals.{buffer_answer}
use Rattle.device_state.proofs.EnterLemmas.{found}
use Rattle.device_state.proofs.device.Device.buffer_of.Goals as goal

pub returns : goal.returns
returns g c =
    let device = c.self.inside in
    rw (← c.self.view_is) (c.buffer_of.ensures ∙ ap buffer_answer (found g.D.Validates.verdict g.D.Notifies.told device.plan device.steps.items _ c.args.request.0 c.self.invariant _ c.frames.ensures _ c.requests.ensures))
