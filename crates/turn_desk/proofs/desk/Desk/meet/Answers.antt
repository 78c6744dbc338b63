use Rattle.std.proofs.Common.{sym, ap, ◌∙◌}
use Rattle.turn_desk.proofs.Words.{has_turn, has_front}
use Rattle.turn_desk.proofs.Turns.{looks}
use Rattle.turn_desk.proofs.Hands.{apart_joined}
use Rattle.turn_desk.proofs.Places.{cuts, gathers}
use Rattle.turn_desk.proofs.desk.Desk.meet.Goals as goal

pub join_seat-requires : goal.join_seat-requires
join_seat-requires g c =
    let t = g.T.Served in
    let shared = c.self.inside.table.shared in
    let token = c.a.inside.token in
    let other = c.b.inside.token in
    let id = sym (ap (λ d. d.id) c.self.view_is) in (
      ap (λ s. s.desk) c.a.view_is ∙ c.requires.first.made_by ∙ id,
      ap (λ s. s.desk) c.b.view_is ∙ c.requires.second.made_by ∙ id,
      c.b.invariant.empty,
      has_turn shared.table_id.words c.self.invariant.0,
      gathers t.is_legal t.plan t.steps (t.plan shared.key.value) token.id token.me.0 other.id other.me.0 c.b.invariant.holding c.b.invariant.closing,
    )

pub load-requires : goal.load-requires
load-requires g c =
    let t = g.T.Served in
    let shared = c.self.inside.table.shared in
    let token = c.join_seat.new.seat in (
      c.join_seat.ensures.0 ∙ ap (λ s. s.desk) c.a.view_is ∙ c.requires.first.made_by ∙ sym (ap (λ d. d.id) c.self.view_is),
      has_front shared.table_id.words c.self.invariant.0,
      looks t.is_legal t.plan t.steps (t.plan shared.key.value) shared.table_id.slots token.id token.me,
    )

pub split_seat-requires : goal.split_seat-requires
split_seat-requires g c =
    let t = g.T.Served in
    let shared = c.self.inside.table.shared in
    let token = c.load.new.seat in (
      c.load.ensures.0 ∙ c.join_seat.ensures.0 ∙ ap (λ s. s.desk) c.a.view_is ∙ c.requires.first.made_by ∙ sym (ap (λ d. d.id) c.self.view_is),
      has_turn shared.table_id.words c.self.invariant.0,
      cuts t.is_legal t.plan t.steps (t.plan shared.key.value) token.id token.me.0,
    )

pub returns-clause-apart : goal.returns-clause-apart
returns-clause-apart g c = λ same.
    apart_joined c.a.inside.number c.b.inside.number c.a.inside.token c.b.inside.token c.join_seat.new.seat c.a.invariant c.b.invariant c.join_seat.ensures.2 c.load.ensures.2.once
    (ap (λ s. s.number) c.b.view_is ∙ sym same ∙ sym (ap (λ s. s.number) c.a.view_is))

-- written out so that a wrong body is refused soon (docs/GATE.md)
pub returns-clause-seats : goal.returns-clause-seats
returns-clause-seats g c =
    let split = c.split_seat.ensures in
    let looked = c.load.ensures in
    let joined = c.join_seat.ensures in
    let planned = ap (λ m. m.0.plan) looked.2.after ∙ ap (λ m. m.0.plan) joined.2 ∙ ap (λ s. s.plan) c.a.view_is in
    let table = looked.0 ∙ joined.0 ∙ ap (λ s. s.desk) c.a.view_is in (
      record { desk = split.3 ∙ table; plan = ap (λ m. m.0.plan) split.4 ∙ planned; number = ap (λ s. s.number) c.a.view_is },
      record {
        desk = split.0 ∙ table ∙ c.requires.first.made_by ∙ sym c.requires.second.made_by;
        plan = ap (λ m. m.0.plan) split.2 ∙ planned ∙ c.requires.first.planned ∙ sym c.requires.second.planned;
        number = ap (λ s. s.number) c.b.view_is;
      },
    )
