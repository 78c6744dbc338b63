use Rattle.device_state.proofs.HandleLemmas.{handles_forecast}
use Rattle.device_state.proofs.device.Device.ask_forecast.Goals as goal

-- a forecast adds no step
pub returns-clause-handles : goal.returns-clause-handles
returns-clause-handles g c = λ seat.
    rw (← c.self.view_is) (handles_forecast g.D.Validates.verdict _ _ seat c.args.place _ c.new-self-inside.ensures c.forecast_read.ensures.answers)
