use Rattle.std.proofs.Common.{refl}
use Rattle.history.specs.Past.{past}
use Rattle.device_state.proofs.EventLemmas.{take_refused}
use Rattle.device_state.proofs.HandleLemmas.{handles_refused}
use Rattle.device_state.proofs.device.Device.ask_take.Goals as goal

pub returns-in-Err-clause-handles : goal.returns-in-Err-clause-handles
returns-in-Err-clause-handles g c =
    rw c.refuse.ensures.answer
    (handles_refused g.D.Validates.verdict _ _ _ c.args.seat _ _ c.refuse.ensures.kept refl
    (take_refused g.D.Validates.verdict c.args.self.now.plan (past c.args.self.now.steps) c.args.self.now.words c.args.fh c.in-Err.check c.in-Err.ensures.event))
