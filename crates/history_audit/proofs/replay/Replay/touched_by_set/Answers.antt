use Rattle.std.proofs.Common.{sym, ◌∙◌}
use Rattle.history.specs.Past.{past}
use Rattle.history_audit.proofs.JudgedLemmas.{set_closed, set_full, set_judged}
use Rattle.history_audit.proofs.replay.Replay.touched_by_set.Goals as goal

-- no further step is kept
pub returns-then-is_full : goal.returns-then-is_full
returns-then-is_full g c = set_full g.D.Validates.verdict c.args.self.now.plan (past c.args.self.now.steps) c.args.fh c.args.pairs.now (sym c.is_full.ensures.full ∙ c.if-is_full.true)

-- the file handle isn't open
pub returns-in-None : goal.returns-in-None
returns-in-None g c = set_closed g.D.Validates.verdict c.args.self.now.plan (past c.args.self.now.steps) c.args.fh c.args.pairs.now (sym c.handler_of.ensures ∙ c.in-None.is)

-- through an open one the list decides
pub returns-in-Some : goal.returns-in-Some
returns-in-Some g c =
    set_judged g.D.Validates.verdict c.args.self.now.plan (past c.args.self.now.steps) c.args.fh c.in-Some.handler c.args.pairs.now c.judge.result
    (sym c.handler_of.ensures ∙ c.in-Some.is) (sym c.is_full.ensures.full ∙ c.if-is_full.false) c.judge.ensures
