use Rattle.ctrl_settle.proofs.Settling.{settled_anew-settled}
use Rattle.ctrl_settle.proofs.laws.settled_anew_stays.Goals as goal

pub returns : goal.returns
returns c = settled_anew-settled
