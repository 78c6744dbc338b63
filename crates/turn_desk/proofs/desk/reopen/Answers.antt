use Rattle.std.proofs.Common.{◌<◌, ◌≤◌, min, All, ap, ◌∙◌, subst, arith}
use Rattle.std.proofs.Math.Nat.{le-min}
use Rattle.turn_desk.specs.declared.seat.TheConstants.{MOST_SEATS}
use Rattle.turn_desk.proofs.Words.{has_seats}
use Rattle.turn_desk.proofs.Places.{reopens}
use Rattle.turn_desk.proofs.desk.reopen.Goals as goal

pub compare_exchange-requires : goal.compare_exchange-requires
compare_exchange-requires g c =
    let t = g.T.Served in
    let shared = c.args.shared.now in
    let token = c.hear_all.new.closer in (
      c.hear_all.ensures.desk ∙ c.requires.desk.0,
      has_seats shared.table_id.words c.requires.desk.1,
      reopens t.is_legal t.plan t.steps (t.plan shared.key.value) shared.table_id.slots token.id c.args.found token.me (λ apart. c.hear_all.ensures.heard.closed ∙ ap (λ v. v.closing) (c.requires.opened.counted apart).1),
    )

pub returns-clause-made : goal.returns-clause-made
returns-clause-made g c =
    let told = c.compare_exchange.ensures.2 in
    let heard = c.hear_all.ensures.heard.more in
    let fewest = c.hear_all.new.closer.me.0.fewest in
    let made : fewest ≤ min c.args.found MOST_SEATS = le-min {a = c.args.found} told.1 told.0 in
    let more : All (λ s. s.number < min c.args.found MOST_SEATS) c.into_vec-seats.result.items = (λ k d below. let one = heard k d below in omega arith) in
    subst (All (λ s. s.number < min c.args.found MOST_SEATS)) c.into_vec-seats.ensures.seats more
