use Rattle.history_audit.proofs.MadeLemmas.{replay_start}
use Rattle.history_audit.proofs.replay.Replay.new.Goals as goal

-- before the first step the state is what a device starts with
pub invariant_of-result : goal.invariant_of-result
invariant_of-result g c = replay_start g.D.Validates.verdict c.args.plan.now c.args.steps.now _ c.in_ok-state.ensures.made
