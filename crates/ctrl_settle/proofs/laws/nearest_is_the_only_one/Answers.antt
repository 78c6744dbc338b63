use Rattle.ctrl_settle.proofs.Grid.{nearest-unique}
use Rattle.ctrl_settle.proofs.laws.nearest_is_the_only_one.Goals as goal

pub returns : goal.returns
returns c = nearest-unique
