use Rattle.std.proofs.Common.{refl}
use Rattle.history.specs.Past.{past}
use Rattle.device_state.proofs.HandleLemmas.{handles_refused}
use Rattle.device_state.proofs.BeginLemmas.{handles_begin, begin_lacks}
use Rattle.device_state.proofs.device.Device.begin.Goals as goal

pub returns-in-Err-clause-handles : goal.returns-in-Err-clause-handles
returns-in-Err-clause-handles g c = rw (← c.self.view_is, c.refused.ensures) (handles_refused g.D.Validates.verdict _ _ _ c.args.seat _ _ refl c.new-self-inside.ensures c.in-Err.ensures.err)

pub returns-in-Ok-accept_begin-clause-handles : goal.returns-in-Ok-accept_begin-clause-handles
returns-in-Ok-accept_begin-clause-handles g c =
    rw (← c.self.view_is)
    (handles_begin g.D.Validates.verdict g.D.Notifies.told _ _ _ c.new-self-inside.result c.args.seat c.in-Ok.begun.request.0 c.in-Ok-accept_begin.reply refl c.new-self-inside.ensures c.in-Ok.ensures.ok.first c.in-Ok-accept_begin.ensures.reply
    c.in-Ok-accept_begin.ensures.ok)

pub returns-in-Err-accept_begin-clause-handles : goal.returns-in-Err-accept_begin-clause-handles
returns-in-Err-accept_begin-clause-handles g c =
    let device = c.self.inside in
    let begun = c.in-Ok.ensures.ok in
    rw (← c.self.view_is, c.refused-in-Err-accept_begin.ensures)
    (handles_refused g.D.Validates.verdict _ _ _ c.args.seat _ _ c.in-Err-accept_begin.ensures.err c.new-self-inside.ensures
    (begin_lacks g.D.Validates.verdict device.plan (past device.steps.items) device.words.items c.in-Ok.begun.request.0 begun.free begun.first begun.room))
