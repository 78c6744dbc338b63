use Rattle.std.proofs.Common.{refl, ◌∙◌}
use Rattle.ctrl_handlers.specs.Plan.{with_item}
use Rattle.ctrl_handlers.proofs.BuilderLemmas.{calls_stay}
use Rattle.ctrl_handlers.proofs.builder.PlanBuilder.set_item.Goals as goal
use Rattle.ctrl_handlers.proofs.builder.PlanBuilder.set_item.Goals.{in-Ok, in-Err}

-- the closures stay
pub invariant_of-self : goal.invariant_of-self
invariant_of-self g c =
    let plan = c.self.inside.outline in
    c.self.invariant ∙ calls_stay plan (with_item plan c.args.control c.args.index c.args.item) c.set_item.new.self c.set_item.result c.set_item.ensures.ok c.set_item.ensures.err refl

pub returns : goal.returns
returns g c =
    elim c.match-set_item.branch [ in-Ok w ↦ rw (w.result-is, ← c.self.view_is) w.in-Ok.ensures.ok | in-Err w ↦ rw (w.result-is, ← c.self.view_is) (refl, w.in-Err.ensures.err) ]
