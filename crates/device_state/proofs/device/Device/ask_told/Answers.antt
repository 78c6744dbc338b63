use Rattle.device_state.proofs.HandleLemmas.{handles_told}
use Rattle.device_state.proofs.device.Device.ask_told.Goals as goal

-- reading a word adds no step
pub returns-clause-handles : goal.returns-clause-handles
returns-clause-handles g c = λ seat.
    rw (← c.self.view_is) (handles_told g.D.Validates.verdict _ _ seat c.args.cluster _ c.new-self-inside.ensures c.word.ensures.answer)
