use Rattle.std.proofs.Common.{take, is_some, ap, sym, ◌∙◌}
use Rattle.history.specs.Past.{past}
use Rattle.req_book.specs.Refusals.{asked_answer}
use Rattle.history_audit.proofs.ReadLemmas.{asked_is, held, lent}
use Rattle.history_audit.proofs.replay.Replay.asked_by.Goals as goal

-- it is there
pub pairs_of-requires : goal.pairs_of-requires
pairs_of-requires g c =
    let r = c.self.inside in
    ap is_some (lent g.D.Validates.verdict r.plan.now (take r.count r.steps.now) c.frames.result.now c.args.request.0 (c.frames.ensures ∙ c.self.invariant.made.frames) c.self.invariant.made.legal _ c.requests.ensures)
    ∙ held g.D.Validates.verdict r.plan.now (past (take r.count r.steps.now)) c.args.request.0 (rw (← c.self.view_is) at c.requires)

pub returns : goal.returns
returns g c =
    let r = c.self.inside in
    rw (← c.self.view_is)
    (asked_is g.D.Validates.verdict r.plan.now (past (take r.count r.steps.now)) c.args.request.0 c.pairs_of.result.now
    (ap asked_answer (sym (lent g.D.Validates.verdict r.plan.now (take r.count r.steps.now) c.frames.result.now c.args.request.0 (c.frames.ensures ∙ c.self.invariant.made.frames) c.self.invariant.made.legal _ c.requests.ensures)) ∙ c.pairs_of.ensures))
