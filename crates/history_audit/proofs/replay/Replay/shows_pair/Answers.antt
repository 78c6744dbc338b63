use Rattle.std.proofs.Common.{rules, ◌≤◌, length, ap, sym, arith}
use Rattle.history_audit.proofs.ShowLemmas.{unshown}
use Rattle.history_audit.proofs.replay.Replay.shows_pair.Goals as goal

-- no control of such a number is there
pub returns-then-pair-controls : goal.returns-then-pair-controls
returns-then-pair-controls g c =
    let r = c.self.inside in
    let past : length r.plan.now.controls ≤ c.args.pair.control = omega (arith, ap length c.controls.ensures.controls, c.if-pair-controls.true) in
    rw (← c.self.view_is) (sym (unshown r.plan.now c.args.handler c.args.pair c.controls.ensures.plan past))

pub returns-then-found-pair : goal.returns-then-found-pair
returns-then-found-pair g c = search rules
