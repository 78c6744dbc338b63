use Rattle.std.proofs.Common.{refl, sym}
use Rattle.device_state.proofs.HandleLemmas.{handles_refused}
use Rattle.device_state.proofs.EnterLemmas.{entered_refused, handles_entered, handles_lacking}
use Rattle.device_state.proofs.device.Device.enter.Goals as goal

pub returns-in-Some-clause-handles : goal.returns-in-Some-clause-handles
returns-in-Some-clause-handles g c =
    rw (← c.self.view_is, c.refused.ensures, c.requires.alone)
    (handles_refused g.D.Validates.verdict _ _ _ c.args.seat _ _ refl c.new-self-inside.ensures
    (entered_refused g.D.Validates.verdict _ _ _ _ c.args.check c.in-Some.check c.args.step c.args.reply (rw (← c.self.view_is) at c.requires) (sym c.in-Some.ensures)))

pub returns-in-Ok-clause-handles : goal.returns-in-Ok-clause-handles
returns-in-Ok-clause-handles g c =
    rw (← c.self.view_is, c.in-Ok.ensures.ok)
    (handles_entered g.D.Validates.verdict _ c.new-self-inside.result c.accept.new.self.work c.args.seat c.args.ask.now c.args.check c.args.step c.args.reply c.new-self-inside.ensures c.accept.ensures.told c.accept.ensures.asked
    (rw (← c.self.view_is) at c.requires) (sym c.in_default.ensures))

pub returns-in-Err-clause-handles : goal.returns-in-Err-clause-handles
returns-in-Err-clause-handles g c =
    rw (← c.self.view_is, c.refused-in-Err.ensures, c.requires.alone)
    (handles_lacking g.D.Validates.verdict _ _ c.new-self-inside.result c.accept.new.self.work c.args.seat c.args.ask.now c.args.check c.args.step c.args.reply c.in-Err.ensures.err c.new-self-inside.ensures c.accept.ensures.told c.accept.ensures.asked
    (rw (← c.self.view_is) at c.requires) (sym c.in_default.ensures))
