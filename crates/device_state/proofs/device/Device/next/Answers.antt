use Rattle.std.proofs.Common.{ap}
use Rattle.ctrl_types.specs.declared.ids.CtrlId.{CtrlId}
use Rattle.device_history.specs.declared.ask.Reply.TheVariants.{Id}
use Rattle.device_history.specs.Refusals.{replied_with}
use Rattle.device_state.proofs.HandleLemmas.{handles_next}
use Rattle.device_state.proofs.device.Device.next.Goals as goal

-- telling the next id adds no step
pub returns-in-Ok-clause-handles : goal.returns-in-Ok-clause-handles
returns-in-Ok-clause-handles g c = λ seat.
    rw (← c.self.view_is) (handles_next g.D.Validates.verdict _ _ seat c.args.fh c.args.id _ c.new-self-inside.ensures (ap (replied_with (λ (next : CtrlId). Id next)) c.in-Ok.ensures))

pub returns-in-Err-clause-handles : goal.returns-in-Err-clause-handles
returns-in-Err-clause-handles g c = λ seat.
    rw (← c.self.view_is, c.refused.ensures) (handles_next g.D.Validates.verdict _ _ seat c.args.fh c.args.id _ c.new-self-inside.ensures (ap (replied_with (λ (next : CtrlId). Id next)) c.in-Err.ensures))
