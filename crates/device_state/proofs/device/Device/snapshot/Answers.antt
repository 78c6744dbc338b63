use Rattle.std.proofs.Common.{length, ap, ◌∙◌}
use Rattle.req_book.specs.Requests.{RequestsData, find}
use Rattle.req_book.specs.Refusals.{value_answer}
use Rattle.frame_queue.specs.Frames.{FramesData}
use Rattle.device_state.proofs.EnterLemmas.{found}
use Rattle.device_state.proofs.device.Device.snapshot.Goals as goal

pub returns : goal.returns
returns g c =
    let device = c.self.inside in
    rw (← c.self.view_is)
    (c.snapshot.ensures
    ∙ ap (λ (rs : RequestsData). value_answer rs.controls c.args.control (find c.requests.result.now.all c.args.request.0)) c.requests.ensures
    ∙ ap (λ (f : FramesData). value_answer f.requests.controls c.args.control (find c.requests.result.now.all c.args.request.0)) (c.frames.ensures ∙ c.self.invariant.made.frames)
    ∙ ap (value_answer (length device.plan.controls) c.args.control) (found g.D.Validates.verdict g.D.Notifies.told device.plan device.steps.items _ c.args.request.0 c.self.invariant _ c.frames.ensures _ c.requests.ensures))
