use Rattle.device_history.specs.declared.ask.Step.TheVariants as steps
use Rattle.history_audit.proofs.MadeLemmas.{behind_next, replay_fresh, replay_makes}
use Rattle.history_audit.proofs.replay.Replay.open.Goals as goal

-- its id is new
pub open-requires : goal.open-requires
open-requires g c = replay_fresh g.D.Validates.verdict c.self.inside.plan.now c.self.inside.steps.now c.self.inside.count _ c.self.invariant

-- one more file handle is open
pub invariant_of-self-2 : goal.invariant_of-self-2
invariant_of-self-2 g c =
    let r = c.self.inside in
    replay_makes g.D.Validates.verdict r.plan.now r.steps.now r.count r.state _ (steps.OpenFh c.args.handler) c.self.invariant (rw (← c.self.view_is) at c.requires.next) (rw (← c.self.view_is) at c.requires.room) (rw (← c.self.view_is) at c.requires.follows)
    (c.in_ok-open.ensures.makes g.D.Validates.verdict r.plan.now)

-- one more step was replayed
pub returns-clause-ok : goal.returns-clause-ok
returns-clause-ok g c = rw (← c.self.view_is) (behind_next c.self.inside.plan.now c.self.inside.steps.now c.self.inside.count c.self.invariant.within)
