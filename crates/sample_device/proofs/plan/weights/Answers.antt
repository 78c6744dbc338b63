use Rattle.sample_device.proofs.PlanLemmas.{weights_made}
use Rattle.sample_device.proofs.plan.weights.Goals as goal

pub returns : goal.returns
returns c = weights_made c.empty.result c.new_array.result (c.empty.ensures tt) c.new_array.ensures.ok c.new_array.ensures.value
