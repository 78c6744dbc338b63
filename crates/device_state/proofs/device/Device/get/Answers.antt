use Rattle.device_state.proofs.device.Device.get.Goals as goal

-- the fault is what the refusal makes
pub returns-in-Err : goal.returns-in-Err
returns-in-Err g c = λ seat. rw (c.at_count.ensures, c.len.ensures) (rw c.in-Err.is at c.ask_get.ensures.handles seat)
