use Rattle.device_state.proofs.HandleLemmas.{handles_get}
use Rattle.device_state.proofs.device.Device.ask_get.Goals as goal

-- a get adds no step
pub returns-clause-handles : goal.returns-clause-handles
returns-clause-handles g c = λ seat.
    rw (← c.self.view_is)
    (handles_get g.D.Validates.verdict _ _ seat c.args.fh c.args.which c.args.request c.args.list.now _ c.new-self-inside.ensures c.get_list-answer.ensures.answers)
