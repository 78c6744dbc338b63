use Rattle.std.proofs.Common.{arith}
use Rattle.std.proofs.lemmas.Grind.{common_steps}
use Rattle.std.proofs.lemmas.List.{length-reverse}
use Rattle.history.specs.Past.{past}
use Rattle.device_state.proofs.QueueLemmas.{queue_short}
use Rattle.device_state.proofs.device.Device.queued_count.Goals as goal

pub returns-clause-few : goal.returns-clause-few
returns-clause-few g c =
    let steps = c.self.inside.steps.items in
    grind (arith, common_steps, queue_short (past steps), length-reverse steps, c.self.invariant.few)
