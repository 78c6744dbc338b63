use Rattle.std.proofs.Common.{sym, ap, ◌∙◌}
use Rattle.turn_desk.proofs.Words.{has_turn, has_slot}
use Rattle.turn_desk.proofs.Turns.{leaves_as}
use Rattle.turn_desk.proofs.desk.Desk.leave_turn.Goals as goal

pub swap-requires : goal.swap-requires
swap-requires g c =
    let t = g.T.Served in
    let shared = c.self.inside.table.shared in
    let token = c.args.token.now in
    let w = c.requires.work.1 in (
      c.requires.desk ∙ sym (ap (λ d. d.id) c.self.view_is),
      has_turn shared.table_id.words c.self.invariant.0,
      leaves_as t.is_legal t.plan t.steps (t.plan shared.key.value) shared.table_id.slots token.id token.me w.object c.args.self.now.plan (has_slot shared.table_id.slots c.self.invariant.1) w.planned w.planned_object w.held w.carried,
    )
