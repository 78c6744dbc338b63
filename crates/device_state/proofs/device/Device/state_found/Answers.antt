use Rattle.std.proofs.Common.{Option, ap, ◌∙◌}
use Rattle.std.specs.Option.{ok_or, option_map}
use Rattle.history.specs.Past.{past}
use Rattle.ctrl_types.specs.declared.check.Check.TheVariants.{RequestMissing}
use Rattle.req_book.specs.Requests.{RequestData}
use Rattle.req_book.specs.declared.state.RequestState.{RequestState}
use Rattle.device_state.proofs.EnterLemmas.{found, state_is}
use Rattle.device_state.proofs.device.Device.state_found.Goals as goal

pub returns-in-Some : goal.returns-in-Some
returns-in-Some g c =
    let device = c.self.inside in
    let same = found g.D.Validates.verdict g.D.Notifies.told device.plan device.steps.items _ c.args.request.0 c.self.invariant _ c.frames.ensures _ c.requests.ensures in
    rw (← c.self.view_is)
    (ap (λ (o : Option RequestState). ok_or o RequestMissing)
    (c.in-Some.ensures ∙ ap (option_map (λ (q : RequestData). q.state)) same ∙ state_is g.D.Validates.verdict device.plan (past device.steps.items) c.args.request.0))

pub returns-in-None : goal.returns-in-None
returns-in-None g c =
    let device = c.self.inside in
    let same = found g.D.Validates.verdict g.D.Notifies.told device.plan device.steps.items _ c.args.request.0 c.self.invariant _ c.frames.ensures _ c.requests.ensures in
    rw (← c.self.view_is)
    (ap (λ (o : Option RequestState). ok_or o RequestMissing)
    (c.in-None.ensures ∙ ap (option_map (λ (q : RequestData). q.state)) same ∙ state_is g.D.Validates.verdict device.plan (past device.steps.items) c.args.request.0))
