use Rattle.ctrl_settle.proofs.Settling.{settle-within}
use Rattle.ctrl_settle.proofs.laws.settled_values_fit.Goals as goal

pub returns : goal.returns
returns c = settle-within
