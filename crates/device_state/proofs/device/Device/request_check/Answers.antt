use Rattle.std.proofs.Common.{ap, ◌∙◌}
use Rattle.std.specs.Option.{option_map}
use Rattle.history.specs.Past.{past}
use Rattle.req_book.specs.Requests.{RequestData}
use Rattle.device_history.specs.Snapshots.{request}
use Rattle.device_state.proofs.EnterLemmas.{found, list_missing, list_taken}
use Rattle.device_state.proofs.device.Device.request_check.Goals as goal

pub returns-in-Some : goal.returns-in-Some
returns-in-Some g c =
    let device = c.self.inside in
    let same = found g.D.Validates.verdict g.D.Notifies.told device.plan device.steps.items _ c.args.request.0 c.self.invariant _ c.frames.ensures _ c.requests.ensures in
    rw (← c.self.view_is)
    (list_taken c.args.writes (request g.D.Validates.verdict device.plan (past device.steps.items) c.args.request.0) c.in-Some.state c.state_check.result
    (c.in-Some.ensures ∙ ap (option_map (λ (q : RequestData). q.state)) same) c.state_check.ensures)

pub returns-in-None : goal.returns-in-None
returns-in-None g c =
    let device = c.self.inside in
    let same = found g.D.Validates.verdict g.D.Notifies.told device.plan device.steps.items _ c.args.request.0 c.self.invariant _ c.frames.ensures _ c.requests.ensures in
    rw (← c.self.view_is)
    (list_missing c.args.writes (request g.D.Validates.verdict device.plan (past device.steps.items) c.args.request.0) (c.in-None.ensures ∙ ap (option_map (λ (q : RequestData). q.state)) same))
