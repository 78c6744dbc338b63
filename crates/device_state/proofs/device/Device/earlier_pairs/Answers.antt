use Rattle.std.proofs.Common.{is_some, sym, ap, ◌∙◌}
use Rattle.history.specs.Past.{past}
use Rattle.req_book.specs.Refusals.{asked_answer}
use Rattle.device_state.proofs.EnterLemmas.{asked_is, found, storable_there}
use Rattle.device_state.proofs.device.Device.earlier_pairs.Goals as goal

-- a request that takes the list is there
pub pairs_of-requires : goal.pairs_of-requires
pairs_of-requires g c =
    let device = c.self.inside in
    ap is_some (found g.D.Validates.verdict g.D.Notifies.told device.plan device.steps.items _ c.in-Some.request.0 c.self.invariant _ c.frames.ensures _ c.requests.ensures) ∙ storable_there _ (rw (← c.self.view_is, c.in-Some.is) at c.requires)

pub returns-in-Some : goal.returns-in-Some
returns-in-Some g c =
    let device = c.self.inside in
    let same = found g.D.Validates.verdict g.D.Notifies.told device.plan device.steps.items _ c.in-Some.request.0 c.self.invariant _ c.frames.ensures _ c.requests.ensures in
    rw (← c.self.view_is, c.in-Some.is)
    (asked_is g.D.Validates.verdict device.plan (past device.steps.items) c.in-Some.request.0 c.pairs_of.result.now (sym (ap asked_answer same) ∙ c.pairs_of.ensures))
