use Rattle.device_state.proofs.KeptLemmas.{ranges_kept}
use Rattle.device_state.proofs.device.Device.at.Goals as goal

pub at-requires : goal.at-requires
at-requires g c = ranges_kept g.D.Validates.verdict g.D.Notifies.told c.self.inside.plan c.self.inside.steps.items _ c.self.invariant
