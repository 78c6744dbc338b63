use Rattle.ctrl_handlers.proofs.ClusterLemmas.{lone_array}
use Rattle.ctrl_handlers.proofs.laws.lone_arrays.Goals as goal

pub returns : goal.returns
returns c = lone_array
