use Rattle.std.proofs.Common.{rules, sym, ap, ◌∙◌}
use Rattle.turn_desk.proofs.Words.{has_front}
use Rattle.turn_desk.proofs.Turns.{looks}
use Rattle.turn_desk.proofs.Hands.{seated_look}
use Rattle.turn_desk.proofs.desk.Desk.front.Goals as goal

pub load-requires : goal.load-requires
load-requires g c =
    let t = g.T.Served in
    let shared = c.self.inside.table.shared in
    let token = c.seat.inside.token in (
      ap (λ s. s.desk) c.seat.view_is ∙ c.requires.made_by ∙ sym (ap (λ d. d.id) c.self.view_is),
      has_front shared.table_id.words c.self.invariant.0,
      looks t.is_legal t.plan t.steps (t.plan shared.key.value) shared.table_id.slots token.id token.me,
    )

pub invariant_of-seat : goal.invariant_of-seat
invariant_of-seat g c =
    let t = g.T.Served in
    seated_look t.is_legal t.plan t.steps c.seat.inside.number c.load.result c.seat.inside.token c.load.new.seat c.seat.invariant c.load.ensures.2

-- written out so that a wrong body is refused soon (docs/GATE.md)
pub returns-clause-length : goal.returns-clause-length
returns-clause-length g c = search rules
