use Rattle.std.proofs.Common.{◌≤◌, ◌++◌, min, Some, length, map, ap, ◌∙◌, subst}
use Rattle.turn_desk.specs.declared.seat.TheConstants.{MOST_SEATS}
use Rattle.turn_desk.specs.Views.{IsWhole}
use Rattle.turn_desk.specs.Ending.{HasGathered, IsEnded}
use Rattle.turn_desk.proofs.Words.{has_seats}
use Rattle.turn_desk.proofs.Places.{closes_desk}
use Rattle.turn_desk.proofs.Endings.{account_of, opened_of, opened_bare, closer_of, whole}
use Rattle.turn_desk.proofs.desk.Desk.close.Goals as goal

pub swap_new_seat-found-requires : goal.swap_new_seat-found-requires
swap_new_seat-found-requires g c =
    let t = g.T.Served in
    let shared = c.self.inside.table.shared in
    (has_seats shared.table_id.words c.self.invariant.0, closes_desk t.is_legal t.plan t.steps (t.plan shared.key.value) shared.table_id.slots)

pub take_object-requires-clause-closer : goal.take_object-requires-clause-closer
take_object-requires-clause-closer g c =
    let found = c.swap_new_seat-found.result.0 in
    let closer = c.swap_new_seat-found.result.1 in
    let plan = g.T.Served.plan c.self.inside.table.shared.key.value in
    let opened = opened_of (Some plan) closer.me found c.swap_new_seat-found.ensures.1 in
    let enough : min found MOST_SEATS ≤ length c.args.seats = subst (λ k. min found MOST_SEATS ≤ k) c.len.ensures.len (subst (λ k. k ≤ c.len.result) c.made_at.ensures c.if-len-made_at.false) in
    closer_of (Some plan) found c.args.seats closer.me.0 c.gather.new.closer.me.0 opened (subst (λ xs. HasGathered xs closer.me.0 c.gather.new.closer.me.0) c.into_vec.ensures.seats c.gather.ensures.closer) enough

pub returns-clause-whole : goal.returns-clause-whole
returns-clause-whole g c =
    let t = g.T.Served in
    let object = c.take_object.result in
    let found = c.swap_new_seat-found.result.0 in
    let closer = c.swap_new_seat-found.result.1 in
    let plan = t.plan c.self.inside.table.shared.key.value in
    let opened = opened_of (Some plan) closer.me found c.swap_new_seat-found.ensures.1 in
    let accounts = c.gather.ensures.closer.accounts ∙ (λ i. map account_of (c.into_vec.ensures.seats i) ++ (opened_bare (Some plan) found closer.me.0 opened).0 i) in
    let ended = subst (λ xs. IsEnded t.is_legal t.plan t.steps plan xs object) accounts c.take_object.ensures in
    subst (λ p. IsWhole t.is_legal p c.args.seats (t.steps object)) (ap (λ d. d.plan) c.self.view_is) (whole t.is_legal t.plan t.steps plan c.args.seats object ended)
