use Rattle.std.proofs.Common.{ap, ◌∙◌}
use Rattle.turn_desk.proofs.Words.{has_turn}
use Rattle.turn_desk.proofs.Places.{counts, gathers}
use Rattle.turn_desk.proofs.desk.hear_number.Goals as goal

pub split_seat-messenger-requires : goal.split_seat-messenger-requires
split_seat-messenger-requires g c =
    let t = g.T.Served in
    let shared = c.args.shared.now in
    let token = c.seat.inside.token in (
      ap (λ s. s.desk) c.seat.view_is ∙ c.requires.seat,
      has_turn shared.table_id.words c.requires.desk.1,
      counts t.is_legal t.plan t.steps (t.plan shared.key.value) token.id token.me.0,
    )

pub join_seat-requires : goal.join_seat-requires
join_seat-requires g c =
    let t = g.T.Served in
    let shared = c.args.shared.now in
    let closer = c.args.closer.now in
    let messenger = c.split_seat-messenger.result in
    let cut = c.split_seat-messenger.ensures in (
      c.requires.desk.0,
      cut.3 ∙ ap (λ s. s.desk) c.seat.view_is ∙ c.requires.seat,
      ap (λ m. m.1) cut.4,
      has_turn shared.table_id.words c.requires.desk.1,
      gathers t.is_legal t.plan t.steps (t.plan shared.key.value) closer.id closer.me.0 messenger.id messenger.me.0 (ap (λ m. m.0.holding) cut.4) (ap (λ m. m.0.closing) cut.4),
    )
