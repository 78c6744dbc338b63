use Rattle.device_state.proofs.HandleLemmas.{handles_query}
use Rattle.device_state.proofs.device.Device.ask_query.Goals as goal

-- a query adds no step
pub returns-clause-handles : goal.returns-clause-handles
returns-clause-handles g c = λ seat.
    rw (← c.self.view_is) (handles_query g.D.Validates.verdict _ _ seat c.args.fh c.args.id _ c.new-self-inside.ensures c.info.ensures.answer)
