use Rattle.device_state.proofs.device.Device.forecast.Goals as goal

-- the fault is what the refusal makes
pub returns-in-Err : goal.returns-in-Err
returns-in-Err g c = λ seat. rw c.fault.ensures (rw c.in-Err.is at c.ask_forecast.ensures.handles seat)
