use Rattle.ctrl_settle.proofs.Settling.{settle-settled}
use Rattle.ctrl_settle.proofs.laws.settled_values_stay.Goals as goal

pub returns : goal.returns
returns c = settle-settled
