use Rattle.std.proofs.Common.{length, ap, sym, ◌∙◌}
use Rattle.history.specs.Past.{past}
use Rattle.req_book.specs.Refusals.{snapshot_answer}
use Rattle.device_state.proofs.EnterLemmas.{found, granted, snapshot_is, snapshot_each}
use Rattle.device_state.proofs.device.Device.values_read.Goals as goal

-- a request that is read has values
pub snapshot_of-requires : goal.snapshot_of-requires
snapshot_of-requires g c =
    let device = c.self.inside in
    let same = found g.D.Validates.verdict g.D.Notifies.told device.plan device.steps.items _ c.in-Some.request.0 c.self.invariant _ c.frames.ensures _ c.requests.ensures in
    rw same (granted _ (rw (← c.self.view_is, c.in-Some.is) at c.requires))

pub returns-in-Some-clause-values : goal.returns-in-Some-clause-values
returns-in-Some-clause-values g c =
    let device = c.self.inside in
    let same = found g.D.Validates.verdict g.D.Notifies.told device.plan device.steps.items _ c.in-Some.request.0 c.self.invariant _ c.frames.ensures _ c.requests.ensures in
    rw (← c.self.view_is, c.in-Some.is) (snapshot_is g.D.Validates.verdict device.plan (past device.steps.items) c.in-Some.request.0 c.snapshot_of.result.now (sym (ap snapshot_answer same) ∙ c.snapshot_of.ensures))

pub returns-in-Some-clause-long : goal.returns-in-Some-clause-long
returns-in-Some-clause-long g c =
    let device = c.self.inside in
    let same = found g.D.Validates.verdict g.D.Notifies.told device.plan device.steps.items _ c.in-Some.request.0 c.self.invariant _ c.frames.ensures _ c.requests.ensures in
    rw (← c.self.view_is)
    (ap length (snapshot_is g.D.Validates.verdict device.plan (past device.steps.items) c.in-Some.request.0 c.snapshot_of.result.now (sym (ap snapshot_answer same) ∙ c.snapshot_of.ensures))
    ∙ snapshot_each g.D.Validates.verdict device.plan (past device.steps.items) c.in-Some.request.0)
