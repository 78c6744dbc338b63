use Rattle.std.proofs.Common.{sym, ap, ◌∙◌}
use Rattle.turn_desk.proofs.Words.{has_turn}
use Rattle.turn_desk.proofs.Turns.{tries}
use Rattle.turn_desk.proofs.desk.Desk.try_turn.Goals as goal

pub compare_exchange-requires : goal.compare_exchange-requires
compare_exchange-requires g c =
    let t = g.T.Served in
    let shared = c.self.inside.table.shared in
    let token = c.args.token.now in
    let r = c.requires in (
      r.desk ∙ sym (ap (λ d. d.id) c.self.view_is),
      has_turn shared.table_id.words c.self.invariant.0,
      tries t.is_legal t.plan t.steps (t.plan shared.key.value) shared.table_id.slots token.id c.args.taking token.me r.taking r.account,
    )
