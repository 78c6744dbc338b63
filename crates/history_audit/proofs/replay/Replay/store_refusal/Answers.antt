use Rattle.std.proofs.Common.{ap, take, ◌∙◌}
use Rattle.req_book.specs.Refusals.{store_check}
use Rattle.history_audit.proofs.ReadLemmas.{lent}
use Rattle.history_audit.proofs.replay.Replay.store_refusal.Goals as goal

-- it is told by the request that is kept
pub returns : goal.returns
returns g c =
    let r = c.self.inside in
    rw (← c.self.view_is) (c.store_refusal.ensures ∙ ap store_check (lent g.D.Validates.verdict r.plan.now (take r.count r.steps.now) c.frames.result.now c.args.request.0 (c.frames.ensures ∙ c.self.invariant.made.frames) c.self.invariant.made.legal _ c.requests.ensures))
