use Rattle.std.proofs.Common.{refl, sym, ◌∙◌}
use Rattle.ctrl_handlers.specs.Plan.{with_added}
use Rattle.ctrl_handlers.specs.Builder.{adding_refusal}
use Rattle.ctrl_handlers.proofs.BuilderLemmas.{for_memory, calls_stay}
use Rattle.ctrl_handlers.proofs.builder.PlanBuilder.add_handler.Goals as goal
use Rattle.ctrl_handlers.proofs.builder.PlanBuilder.add_handler.Goals.{in-Ok, in-Err}

-- the closures stay
pub invariant_of-self : goal.invariant_of-self
invariant_of-self g c =
    let plan = c.self.inside.outline in
    c.self.invariant ∙ calls_stay plan (with_added plan c.args.to c.args.added) c.add_to.new.self c.add_to.result c.add_to.ensures.ok c.add_to.ensures.err refl

pub returns-clause-ok : goal.returns-clause-ok
returns-clause-ok g c =
    elim c.match-add_to.branch [ in-Ok w ↦ rw (w.result-is, ← c.self.view_is) (sym c.adding_refusal.ensures ∙ c.in_default.is, w.in-Ok.ensures.ok) | in-Err w ↦ rw w.result-is tt ]

pub returns-clause-err : goal.returns-clause-err
returns-clause-err g c =
    elim c.match-add_to.branch [
      | in-Ok w ↦ rw w.result-is tt
      | in-Err w ↦ rw (w.result-is, ← c.self.view_is) (for_memory (adding_refusal c.self.inside.outline c.args.to c.args.added) (sym c.adding_refusal.ensures ∙ c.in_default.is), w.in-Err.ensures.err)
    ]
