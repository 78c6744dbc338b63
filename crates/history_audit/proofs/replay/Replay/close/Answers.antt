use Rattle.device_history.specs.declared.ask.Step.TheVariants as steps
use Rattle.history_audit.proofs.MadeLemmas.{behind_next, replay_makes}
use Rattle.history_audit.proofs.replay.Replay.close.Goals as goal

-- the file handle is open no longer
pub invariant_of-self : goal.invariant_of-self
invariant_of-self g c =
    let r = c.self.inside in
    replay_makes g.D.Validates.verdict r.plan.now r.steps.now r.count r.state _ (steps.CloseFh c.args.fh) c.self.invariant (rw (← c.self.view_is) at c.requires.next) (rw (← c.self.view_is) at c.requires.room) (rw (← c.self.view_is) at c.requires.follows)
    (c.close.ensures.makes r.count g.D.Validates.verdict r.plan.now)

-- one more step was replayed
pub returns : goal.returns
returns g c = rw (← c.self.view_is) (behind_next c.self.inside.plan.now c.self.inside.steps.now c.self.inside.count c.self.invariant.within)
