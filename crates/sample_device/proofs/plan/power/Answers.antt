use Rattle.std.proofs.Common.{refl}
use Rattle.ctrl_settle.proofs.WellFormed.{IsWellFormed-test}
use Rattle.sample_device.proofs.PlanLemmas.{plain_made}
use Rattle.sample_device.proofs.plan.power.Goals as goal

pub returns : goal.returns
returns c = plain_made _ _ _ _ _ _ _ _ c.empty.result c.new.result (c.empty.ensures tt) (IsWellFormed-test _ refl) c.new.ensures.ok c.new.ensures.value
