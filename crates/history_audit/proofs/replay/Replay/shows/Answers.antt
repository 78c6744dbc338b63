use Rattle.std.proofs.Common.{◌≤◌, length, take, ap, sym, arith}
use Rattle.history.specs.Past.{past}
use Rattle.history_audit.proofs.ShowLemmas.{unshown_control}
use Rattle.history_audit.proofs.replay.Replay.shows.Goals as goal

-- no control of such a number is there
pub returns-then-control-controls : goal.returns-then-control-controls
returns-then-control-controls g c =
    let r = c.self.inside in
    let beyond : length r.plan.now.controls ≤ c.args.control = omega (arith, ap length c.controls.ensures.controls, c.if-control-controls.true) in
    rw (← c.self.view_is) (sym (unshown_control r.plan.now (past (take r.count r.steps.now)) c.args.fh c.args.control c.controls.ensures.plan beyond))
