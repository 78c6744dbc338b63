use Rattle.std.proofs.Common.{refl}
use Rattle.ctrl_settle.proofs.WellFormed.{IsWellFormed-test}
use Rattle.sample_device.proofs.plan.autogain.Goals as goal

pub plain-requires : goal.plain-requires
plain-requires c = IsWellFormed-test _ refl
