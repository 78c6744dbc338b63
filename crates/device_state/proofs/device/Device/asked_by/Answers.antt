use Rattle.std.proofs.Common.{sym, ap, ◌∙◌}
use Rattle.history.specs.Past.{past}
use Rattle.req_book.specs.Refusals.{asked_answer}
use Rattle.device_state.proofs.EnterLemmas.{asked_is, found, held}
use Rattle.device_state.proofs.device.Device.asked_by.Goals as goal

pub pairs_of-requires : goal.pairs_of-requires
pairs_of-requires g c = held g.D.Validates.verdict g.D.Notifies.told c.self.inside.plan c.self.inside.steps.items _ c.args.request.0 c.self.invariant _ c.frames.ensures _ c.requests.ensures (rw (← c.self.view_is) at c.requires)

pub returns : goal.returns
returns g c =
    let device = c.self.inside in
    let same = found g.D.Validates.verdict g.D.Notifies.told device.plan device.steps.items _ c.args.request.0 c.self.invariant _ c.frames.ensures _ c.requests.ensures in
    rw (← c.self.view_is) (asked_is g.D.Validates.verdict device.plan (past device.steps.items) c.args.request.0 c.pairs_of.result.now (sym (ap asked_answer same) ∙ c.pairs_of.ensures))
