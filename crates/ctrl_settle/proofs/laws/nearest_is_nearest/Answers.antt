use Rattle.ctrl_settle.proofs.Grid.{IsNearest-nearest}
use Rattle.ctrl_settle.proofs.laws.nearest_is_nearest.Goals as goal

pub returns : goal.returns
returns c = IsNearest-nearest
