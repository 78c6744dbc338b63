use Rattle.std.proofs.Common.{take, subst, sym}
use Rattle.history.specs.Past.{past}
use Rattle.device_history.specs.declared.ask.Step.TheVariants as steps
use Rattle.device_parts.specs.Makes.{Makes}
use Rattle.device_parts.specs.State.{IsReady, StateData}
use Rattle.history_audit.proofs.FollowLemmas.{grab_known}
use Rattle.history_audit.proofs.MadeLemmas.{behind_next, replay_makes, replay_ready}
use Rattle.history_audit.proofs.replay.Replay.grab.Goals as goal

-- the state is ready for a step
pub grab-requires-clause-ready : goal.grab-requires-clause-ready
grab-requires-clause-ready g c =
    subst (λ (s : StateData). IsReady c.self.inside.plan.now s) (sym c.in_ok-room.ensures.same) (replay_ready g.D.Validates.verdict c.self.inside.plan.now c.self.inside.steps.now c.self.inside.count _ c.self.invariant)

-- the control is there
pub grab-requires-clause-known : goal.grab-requires-clause-known
grab-requires-clause-known g c =
    let r = c.self.inside in
    grab_known g.D.Validates.verdict r.plan.now (past (take r.count r.steps.now)) c.args.control c.args.on (rw (← c.self.view_is) at c.requires.follows)

-- it is grabbed now, or let go
pub invariant_of-self-2 : goal.invariant_of-self-2
invariant_of-self-2 g c =
    let r = c.self.inside in
    replay_makes g.D.Validates.verdict r.plan.now r.steps.now r.count r.state _ (steps.Grab c.args.control c.args.on) c.self.invariant (rw (← c.self.view_is) at c.requires.next) (rw (← c.self.view_is) at c.requires.room) (rw (← c.self.view_is) at c.requires.follows)
    (subst (λ (s : StateData). Makes g.D.Validates.verdict r.plan.now r.count (steps.Grab c.args.control c.args.on) s c.grab.new.self) c.in_ok-room.ensures.same (c.grab.ensures.makes r.count))

-- one more step was replayed
pub returns-clause-ok : goal.returns-clause-ok
returns-clause-ok g c = rw (← c.self.view_is) (behind_next c.self.inside.plan.now c.self.inside.steps.now c.self.inside.count c.self.invariant.within)
