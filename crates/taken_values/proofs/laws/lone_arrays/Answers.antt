use Rattle.taken_values.proofs.ArrayLemmas.{lone_now}
use Rattle.taken_values.proofs.laws.lone_arrays.Goals as goal

pub returns : goal.returns
returns c = lone_now
