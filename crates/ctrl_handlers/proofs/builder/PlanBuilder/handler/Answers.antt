use Rattle.std.proofs.Common.{rules, length, refl, ◌∙◌}
use Rattle.ctrl_handlers.specs.Plan.{with_handler}
use Rattle.ctrl_handlers.proofs.BuilderLemmas.{calls_stay_at}
use Rattle.ctrl_handlers.proofs.builder.PlanBuilder.handler.Goals as goal

-- the closures stay
pub invariant_of-self : goal.invariant_of-self
invariant_of-self g c =
    let plan = c.self.inside.outline in
    c.self.invariant ∙ calls_stay_at plan (with_handler plan) c.add_handler.new.self (length plan.handlers) c.add_handler.result c.add_handler.ensures.ok c.add_handler.ensures.err refl

pub returns-clause-err : goal.returns-clause-err
returns-clause-err g c = search rules

pub returns-clause-ok : goal.returns-clause-ok
returns-clause-ok g c = search rules
