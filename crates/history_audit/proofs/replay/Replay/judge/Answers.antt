use Rattle.std.proofs.Common.{sym, subst, ◌∙◌}
use Rattle.history.specs.Past.{past}
use Rattle.ctrl_handlers.specs.Plan.{PlanData, IsPlan}
use Rattle.history_audit.specs.Judged.{view_of}
use Rattle.history_audit.proofs.PairLemmas.{unlisted}
use Rattle.history_audit.proofs.JudgedLemmas.{seen, is_set, is_other}
use Rattle.history_audit.proofs.replay.Replay.judge.Goals as goal

-- there is no such list
pub returns-in_default : goal.returns-in_default
returns-in_default g c =
    let plan = c.args.self.now.plan in
    unlisted g.D.Validates.verdict plan (view_of g.D.Validates.verdict plan (past c.args.self.now.steps) c.args.handler c.args.which c.args.asked.now) c.args.pairs.now
    (subst (λ (p : PlanData). IsPlan p) c.at-at.ensures.plan c.at-at.result.planned.is_plan) (rw c.in_default.is at c.in_ok-list.ensures.none)

-- it is set
pub returns-then-are_same : goal.returns-then-are_same
returns-then-are_same g c =
    let view = seen g.D.Validates.verdict c.args.self.now.plan c.at-at.result.plan.now (past c.args.self.now.steps) c.args.handler c.args.which c.at-at.result.ranges.now c.at-at.result.values.now c.at-at.result.grabs.now c.args.asked.now c.new-view.result
    c.new-view.ensures c.at-at.ensures.plan c.at-at.ensures.ranges c.at-at.ensures.values c.at-at.ensures.grabs in
    is_set g.D.Validates.verdict c.args.self.now.plan c.new-view.result _ c.in-Some.list c.args.pairs.now c.in-Ok.touch view (rw c.in-Some.is at c.in_ok-list.ensures.list) c.in-Ok.ensures.ok c.in-Ok.ensures.answers c.in-Ok.ensures.touched
    (sym c.pairs.ensures ∙ c.are_same.ensures.0 c.if-are_same.true)

-- it names other controls
pub returns-in-Ok : goal.returns-in-Ok
returns-in-Ok g c =
    let view = seen g.D.Validates.verdict c.args.self.now.plan c.at-at.result.plan.now (past c.args.self.now.steps) c.args.handler c.args.which c.at-at.result.ranges.now c.at-at.result.values.now c.at-at.result.grabs.now c.args.asked.now c.new-view.result
    c.new-view.ensures c.at-at.ensures.plan c.at-at.ensures.ranges c.at-at.ensures.values c.at-at.ensures.grabs in
    is_other g.D.Validates.verdict c.args.self.now.plan c.new-view.result _ c.in-Some.list c.args.pairs.now c.in-Ok.touch view (rw c.in-Some.is at c.in_ok-list.ensures.list) c.in-Ok.ensures.touched
    (λ own. (let there = c.are_same.ensures.1 (c.pairs.ensures ∙ own) in let not = c.if-are_same.false in cc))
