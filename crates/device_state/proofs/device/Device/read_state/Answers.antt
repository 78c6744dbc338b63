use Rattle.std.proofs.Common.{ap}
use Rattle.device_history.specs.declared.ask.Reply.TheVariants.{State}
use Rattle.device_history.specs.Refusals.{replied_with}
use Rattle.device_state.proofs.HandleLemmas.{handles_state}
use Rattle.device_state.proofs.device.Device.read_state.Goals as goal

-- reading a state adds no step
pub returns-in-Ok-clause-handles : goal.returns-in-Ok-clause-handles
returns-in-Ok-clause-handles g c = λ seat.
    rw (← c.self.view_is) (handles_state g.D.Validates.verdict _ _ seat c.args.request _ c.new-self-inside.ensures (ap (replied_with State) c.in-Ok.ensures))

pub returns-in-Err-clause-handles : goal.returns-in-Err-clause-handles
returns-in-Err-clause-handles g c = λ seat.
    rw (← c.self.view_is, c.refused.ensures) (handles_state g.D.Validates.verdict _ _ seat c.args.request _ c.new-self-inside.ensures (ap (replied_with State) c.in-Err.ensures))
