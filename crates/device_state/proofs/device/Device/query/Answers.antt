use Rattle.device_state.proofs.device.Device.query.Goals as goal

-- the fault is what the refusal makes
pub returns-in-Err : goal.returns-in-Err
returns-in-Err g c = λ seat. rw c.fault.ensures (rw c.in-Err.is at c.ask_query.ensures.handles seat)
