use Rattle.std.proofs.Common.{ap, ◌∙◌}
use Rattle.history.specs.Past.{past}
use Rattle.req_book.specs.Requests.{RequestsData, find}
use Rattle.req_book.specs.Refusals.{buffer_check}
use Rattle.frame_queue.specs.Frames.{FramesData}
use Rattle.device_history.specs.Snapshots.{requests}
use Rattle.device_state.proofs.EnterLemmas.{found}
use Rattle.device_state.proofs.device.Device.buffer_refusal.Goals as goal

pub returns : goal.returns
returns g c =
    let device = c.self.inside in
    rw (← c.self.view_is)
    (c.buffer_refusal.ensures
    ∙ ap (λ (rs : RequestsData). buffer_check rs.all c.args.buffer (find c.requests.result.now.all c.args.request.0)) c.requests.ensures
    ∙ ap (λ (f : FramesData). buffer_check f.requests.all c.args.buffer (find c.requests.result.now.all c.args.request.0)) (c.frames.ensures ∙ c.self.invariant.made.frames)
    ∙ ap (buffer_check (requests g.D.Validates.verdict device.plan (past device.steps.items)) c.args.buffer) (found g.D.Validates.verdict g.D.Notifies.told device.plan device.steps.items _ c.args.request.0 c.self.invariant _ c.frames.ensures _ c.requests.ensures))
