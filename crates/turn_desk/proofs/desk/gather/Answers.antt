use Rattle.std.proofs.Common.{◌≡◌, [], ◌∷◌, Some, sym, ap, ◌∙◌, subst}
use Rattle.std.proofs.lemmas.List.Elements.{All-pop}
use Rattle.turn_desk.specs.Ending.{IsGathering}
use Rattle.turn_desk.proofs.Words.{has_turn}
use Rattle.turn_desk.proofs.Places.{gathers}
use Rattle.turn_desk.proofs.Endings.{account_of, gathers_one}
use Rattle.turn_desk.proofs.desk.gather.Goals as goal

pub join_seat-requires : goal.join_seat-requires
join_seat-requires g c =
    let i = c.loop-seat.invariant in
    let t = g.T.Served in
    let shared = c.args.shared.now in
    let closer = c.loop-seat.closer in
    let token = c.seat.inside.token in
    let at_hand = All-pop (λ s. s.desk ≡ shared.table_id) c.loop-seat.seats.items c.pop.new.self.items (Some c.in-Some.seat) c.in-Some.ensures.items i.seats in (
      i.desk ∙ c.requires.desk,
      ap (λ s. s.desk) c.seat.view_is ∙ at_hand.1,
      c.seat.invariant.empty,
      has_turn shared.table_id.words c.requires.words,
      gathers t.is_legal t.plan t.steps (t.plan shared.key.value) closer.id closer.me.0 token.id token.me.0 c.seat.invariant.holding c.seat.invariant.closing,
    )

pub loop-seat-preserved : goal.loop-seat-preserved
loop-seat-preserved g c =
    let i = c.loop-seat.invariant in
    let at_hand = All-pop (λ s. s.desk ≡ c.args.shared.now.table_id) c.loop-seat.seats.items c.pop.new.self.items (Some c.in-Some.seat) c.in-Some.ensures.items i.seats in
    let joined = gathers_one c.args.seats.items c.loop-seat.seats.items c.pop.new.self.items c.in-Some.seat c.args.closer.now.me.0 c.loop-seat.closer.me.0 c.seat.inside.token.me.0 c.in-Some.ensures.items
    (c.seat.invariant.account ∙ ap (λ s. account_of s ∷ []) c.seat.view_is) i.gathered in
    record {
      desk = c.join_seat.ensures.0 ∙ i.desk;
      seats = at_hand.0;
      gathered = subst (λ m. IsGathering c.args.seats.items c.pop.new.self.items c.args.closer.now.me.0 m.0) (sym c.join_seat.ensures.2) joined;
    }
