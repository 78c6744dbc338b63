use Rattle.std.proofs.Common.{ap, ◌∙◌, subst}
use Rattle.turn_desk.specs.Calls.{IsCall}
use Rattle.turn_desk.proofs.Hands.{at_work, called}
use Rattle.turn_desk.proofs.desk.Desk.call.Goals as goal

pub returns-clause-call : goal.returns-clause-call
returns-clause-call g c =
    let t = g.T.Served in
    let done = called t.is_legal t.plan t.steps t.answers t.taken c.seat.inside.number c.args.self.now.plan c.args.ask.now c.work-answer.result c.seat.inside.token c.take_turn.new.token c.work-answer.new.token.me.0 c.seat.invariant
    (ap (λ x. x.plan) c.seat.view_is ∙ c.requires.planned) c.take_turn.ensures.taken c.work-answer.ensures.worked in
    rw c.leave_turn.ensures.left (subst (λ x. IsCall t.is_legal t.answers t.taken c.args.self.now.plan x.number x.seen c.args.ask.now c.work-answer.result c.work-answer.new.token.me.0.seen) c.seat.view_is done)

pub work-answer-requires-clause-work : goal.work-answer-requires-clause-work
work-answer-requires-clause-work g c =
    let t = g.T.Served in
    at_work t.is_legal t.plan t.steps c.seat.inside.number c.args.self.now.plan c.seat.inside.token c.take_turn.new.token c.seat.invariant (ap (λ x. x.plan) c.seat.view_is ∙ c.requires.planned) c.take_turn.ensures.taken
