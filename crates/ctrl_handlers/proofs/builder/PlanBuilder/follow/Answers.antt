use Rattle.std.proofs.Common.{◌≡◌, None, refl, sym, ◌∙◌, subst}
use Rattle.ctrl_handlers.specs.Plan.{PlanData, with_follower}
use Rattle.ctrl_handlers.specs.Builder.{follow_refusal}
use Rattle.ctrl_handlers.proofs.BuilderLemmas.{for_memory, calls_stay}
use Rattle.ctrl_handlers.proofs.builder.PlanBuilder.follow.Goals as goal
use Rattle.ctrl_handlers.proofs.builder.PlanBuilder.follow.Goals.{in-Ok, in-Err}

-- the closures stay
pub invariant_of-self : goal.invariant_of-self
invariant_of-self g c =
    let plan = c.self.inside.outline in
    c.self.invariant ∙ calls_stay plan (with_follower plan c.args.follower.now) c.add_follower.new.self c.add_follower.result c.add_follower.ensures.ok c.add_follower.ensures.err refl

pub returns-clause-ok : goal.returns-clause-ok
returns-clause-ok g c =
    elim c.match-add_follower.branch [
      | in-Ok w ↦ rw (w.result-is, ← c.self.view_is) (sym c.follow_refusal.ensures ∙ c.in_default.is, w.in-Ok.ensures.ok)
      | in-Err w ↦ rw w.result-is tt
    ]

pub returns-clause-err : goal.returns-clause-err
returns-clause-err g c =
    elim c.match-add_follower.branch [
      | in-Ok w ↦ rw w.result-is tt
      | in-Err w ↦ rw (w.result-is, ← c.self.view_is) (for_memory (follow_refusal c.self.inside.outline c.args.follower.now) (sym c.follow_refusal.ensures ∙ c.in_default.is), w.in-Err.ensures.err)
    ]
