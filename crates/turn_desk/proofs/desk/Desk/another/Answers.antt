use Rattle.std.proofs.Common.{◌<◌, All, sym, ap, ◌∙◌, subst}
use Rattle.history.specs.Past.{own}
use Rattle.turn_desk.proofs.Words.{has_turn, has_seats}
use Rattle.turn_desk.proofs.Hands.{kept_first, seated_same, seated_new, same_view, new_view, new_number}
use Rattle.turn_desk.proofs.Places.{takes_number, cuts}
use Rattle.turn_desk.proofs.Endings.{All-each}
use Rattle.turn_desk.proofs.desk.Desk.another.Goals as goal

pub compare_exchange-found-requires : goal.compare_exchange-found-requires
compare_exchange-found-requires g c =
    let t = g.T.Served in
    let shared = c.self.inside.table.shared in
    let token = c.loop.token in (
      c.loop.invariant.0 ∙ ap (λ s. s.desk) c.seat.view_is ∙ c.requires.made_by ∙ sym (ap (λ d. d.id) c.self.view_is),
      has_seats shared.table_id.words c.self.invariant.0,
      takes_number t.is_legal t.plan t.steps (t.plan shared.key.value) shared.table_id.slots token.id c.loop.next token.me c.if-next.false,
    )

pub split_seat-requires : goal.split_seat-requires
split_seat-requires g c =
    let t = g.T.Served in
    let shared = c.self.inside.table.shared in
    let token = c.compare_exchange-found.new.seat in (
      c.compare_exchange-found.ensures.0 ∙ c.loop.invariant.0 ∙ ap (λ s. s.desk) c.seat.view_is ∙ c.requires.made_by ∙ sym (ap (λ d. d.id) c.self.view_is),
      has_turn shared.table_id.words c.self.invariant.0,
      cuts t.is_legal t.plan t.steps (t.plan shared.key.value) token.id token.me.0,
    )

pub returns-then-found-next-clause-number : goal.returns-then-found-next-clause-number
returns-then-found-next-clause-number g c =
    let taken = c.compare_exchange-found.ensures.2.0 c.if-found-next.true in (
      subst (λ k. k < c.loop.next) (ap (λ s. s.number) c.seat.view_is) (new_number c.seat.inside.number c.loop.next c.seat.inside.token c.loop.token c.compare_exchange-found.new.seat c.seat.invariant c.loop.invariant.1 taken),
      c.if-next.false,
    )

pub returns-then-found-next-clause-newest : goal.returns-then-found-next-clause-newest
returns-then-found-next-clause-newest g c =
    let n = c.loop.next in
    let taken = c.compare_exchange-found.ensures.2.0 c.if-found-next.true in
    let seen = ap (λ m. m.0.seen) c.loop.invariant.1 ∙ ap (λ s. s.seen) c.seat.view_is in
    subst (All (λ e. e.seat < n)) seen (All-each (λ e. e.seat < n) c.loop.token.me.0.seen taken.older)

pub invariant_of-new : goal.invariant_of-new
invariant_of-new g c =
    let number = c.seat.inside.number in
    let start = c.seat.inside.token in
    let token = c.loop.token in
    let found = c.compare_exchange-found.new.seat in
    let seated = seated_same number start token c.seat.invariant c.loop.invariant.1 in
    let taken = c.compare_exchange-found.ensures.2.0 c.if-found-next.true in
    seated_new number c.loop.next token found c.split_seat.result seated taken c.split_seat.ensures.4

pub returns-then-found-next-clause-kept : goal.returns-then-found-next-clause-kept
returns-then-found-next-clause-kept g c =
    let number = c.seat.inside.number in
    let start = c.seat.inside.token in
    let token = c.loop.token in
    let found = c.compare_exchange-found.new.seat in
    let seated = seated_same number start token c.seat.invariant c.loop.invariant.1 in
    let taken = c.compare_exchange-found.ensures.2.0 c.if-found-next.true in
    let kept = c.split_seat.new.seat in
    same_view number start kept (c.split_seat.ensures.0 ∙ c.compare_exchange-found.ensures.0 ∙ c.loop.invariant.0) (kept_first number c.loop.next token found kept seated taken c.split_seat.ensures.2 ∙ c.loop.invariant.1) ∙ c.seat.view_is

pub returns-then-found-next-clause-made : goal.returns-then-found-next-clause-made
returns-then-found-next-clause-made g c =
    let number = c.seat.inside.number in
    let start = c.seat.inside.token in
    let token = c.loop.token in
    let found = c.compare_exchange-found.new.seat in
    let seated = seated_same number start token c.seat.invariant c.loop.invariant.1 in
    let taken = c.compare_exchange-found.ensures.2.0 c.if-found-next.true in
    let new = new_view number c.loop.next token found c.split_seat.result seated taken c.split_seat.ensures.4 in (
      record {
        made_by = c.split_seat.ensures.3 ∙ c.compare_exchange-found.ensures.0 ∙ c.loop.invariant.0 ∙ ap (λ s. s.desk) c.seat.view_is ∙ c.requires.made_by;
        planned = ap (λ v. v.plan) new ∙ ap (λ m. m.0.plan) c.loop.invariant.1 ∙ ap (λ s. s.plan) c.seat.view_is ∙ c.requires.planned;
      },
      ap (λ v. v.seen) new ∙ ap (λ m. m.0.seen) c.loop.invariant.1 ∙ ap (λ s. s.seen) c.seat.view_is,
    )

pub returns-then-found-next-clause-own : goal.returns-then-found-next-clause-own
returns-then-found-next-clause-own g c =
    let number = c.seat.inside.number in
    let start = c.seat.inside.token in
    let token = c.loop.token in
    let found = c.compare_exchange-found.new.seat in
    let seated = seated_same number start token c.seat.invariant c.loop.invariant.1 in
    let taken = c.compare_exchange-found.ensures.2.0 c.if-found-next.true in
    ap (λ v. own c.loop.next v.seen) (new_view number c.loop.next token found c.split_seat.result seated taken c.split_seat.ensures.4) ∙ taken.none
