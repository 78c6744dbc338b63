use Rattle.std.proofs.Common.{◌<◌, length, sym, ap, ◌∙◌, subst}
use Rattle.turn_desk.proofs.Words.{has_turn}
use Rattle.turn_desk.proofs.Turns.{marks}
use Rattle.turn_desk.proofs.desk.Desk.take_turn.Goals as goal

pub try_turn-requires-clause-account : goal.try_turn-requires-clause-account
try_turn-requires-clause-account g c = subst (λ m. 0 < length m.0.accounts) (sym c.loop.invariant.1) c.requires.account

pub compare_exchange-requires : goal.compare_exchange-requires
compare_exchange-requires g c =
    let t = g.T.Served in
    let shared = c.self.inside.table.shared in
    let token = c.try_turn.new.token in (
      c.try_turn.ensures.same ∙ c.loop.invariant.0 ∙ c.requires.desk ∙ sym (ap (λ d. d.id) c.self.view_is),
      has_turn shared.table_id.words c.self.invariant.0,
      marks t.is_legal t.plan t.steps (t.plan shared.key.value) shared.table_id.slots token.id token.me,
    )
