use Rattle.device_state.proofs.device.Device.set.Goals as goal

pub returns-in-Ok-clause-handles : goal.returns-in-Ok-clause-handles
returns-in-Ok-clause-handles g c = rw c.in-Ok.is at c.set_list-answer.ensures.handles

-- the fault is what the refusal makes
pub returns-in-Err-clause-handles : goal.returns-in-Err-clause-handles
returns-in-Err-clause-handles g c = rw (c.at_count.ensures, c.len.ensures) (rw c.in-Err.is at c.set_list-answer.ensures.handles)
