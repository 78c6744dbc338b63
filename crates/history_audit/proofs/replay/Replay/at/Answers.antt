use Rattle.history_audit.proofs.MadeLemmas.{replay_ready}
use Rattle.history_audit.proofs.replay.Replay.at.Goals as goal

-- the ranges are of the plan's controls
pub at-requires : goal.at-requires
at-requires g c = (replay_ready g.D.Validates.verdict c.self.inside.plan.now c.self.inside.steps.now c.self.inside.count _ c.self.invariant).ranges
