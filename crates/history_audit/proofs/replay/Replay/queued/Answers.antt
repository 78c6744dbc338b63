use Rattle.std.proofs.Common.{ℕ, take, ◌∙◌}
use Rattle.history.specs.Past.{past}
use Rattle.req_book.specs.Requests.{find}
use Rattle.device_parts.proofs.FitLemmas.{found}
use Rattle.history_audit.proofs.ReadLemmas.{queued_holds}
use Rattle.history_audit.proofs.replay.Replay.queued.Goals as goal

-- what is queued holds a buffer
pub returns-clause-holds : goal.returns-clause-holds
returns-clause-holds g c =
    let r = c.self.inside in
    rw (← c.self.view_is)
    (queued_holds g.D.Validates.verdict r.plan.now (past (take r.count r.steps.now)) (λ (id : ℕ). find c.frames.result.now.requests.all id) c.queued.result
    (λ id. found g.D.Validates.verdict r.plan.now (take r.count r.steps.now) c.frames.result.now id (c.frames.ensures ∙ c.self.invariant.made.frames) c.self.invariant.made.legal) c.queued.ensures.holds)
