use Rattle.std.proofs.Common.{ℕ, take, subst}
use Rattle.device_parts.specs.Leaving.{FitsIn}
use Rattle.device_parts.proofs.FitLemmas.{fits_in}
use Rattle.history_audit.proofs.MadeLemmas.{behind_next, replay_makes, replay_ready, taken_many}
use Rattle.history_audit.proofs.replay.Replay.change.Goals as goal

-- the state is ready for a step
pub change-requires-clause-ready : goal.change-requires-clause-ready
change-requires-clause-ready g c = replay_ready g.D.Validates.verdict c.self.inside.plan.now c.self.inside.steps.now c.self.inside.count _ c.self.invariant

-- the step fits what is kept
pub change-requires-clause-fits : goal.change-requires-clause-fits
change-requires-clause-fits g c =
    let r = c.self.inside in
    subst (λ (n : ℕ). FitsIn n c.args.step.now r.state.frames) (taken_many r.steps.now r.count c.self.invariant.within)
    (fits_in g.D.Validates.verdict r.plan.now (take r.count r.steps.now) r.state.frames c.args.step.now c.self.invariant.made.frames c.self.invariant.made.legal (rw (← c.self.view_is) at c.requires.follows) c.requires.leaves (rw (← c.self.view_is) at c.requires.known))

-- the state is what the step makes of it
pub invariant_of-self-2 : goal.invariant_of-self-2
invariant_of-self-2 g c =
    let r = c.self.inside in
    replay_makes g.D.Validates.verdict r.plan.now r.steps.now r.count r.state _ c.args.step.now c.self.invariant (rw (← c.self.view_is) at c.requires.next) (rw (← c.self.view_is) at c.requires.room) (rw (← c.self.view_is) at c.requires.follows) c.in_ok-change.ensures.makes

-- one more step was replayed
pub returns-clause-ok : goal.returns-clause-ok
returns-clause-ok g c = rw (← c.self.view_is) (behind_next c.self.inside.plan.now c.self.inside.steps.now c.self.inside.count c.self.invariant.within)
