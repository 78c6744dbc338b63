use Rattle.std.proofs.Common.{length, refl, sym, ◌∙◌}
use Rattle.ctrl_handlers.specs.Plan.{with_control}
use Rattle.ctrl_handlers.specs.Builder.{control_refusal}
use Rattle.ctrl_handlers.proofs.PlanLemmas.{may_own}
use Rattle.ctrl_handlers.proofs.BuilderLemmas.{for_memory, calls_stay_at}
use Rattle.ctrl_handlers.proofs.builder.PlanBuilder.control.Goals as goal
use Rattle.ctrl_handlers.proofs.builder.PlanBuilder.control.Goals.{in-Ok, in-Err}

-- nothing refuses the control
pub add_control-requires-clause-known : goal.add_control-requires-clause-known
add_control-requires-clause-known g c = (may_own c.self.inside.outline c.args.handler c.args.ctrl (sym c.control_refusal.ensures ∙ c.in_default.is)).0

pub add_control-requires-clause-room : goal.add_control-requires-clause-room
add_control-requires-clause-room g c = (may_own c.self.inside.outline c.args.handler c.args.ctrl (sym c.control_refusal.ensures ∙ c.in_default.is)).1

pub add_control-requires-clause-differs : goal.add_control-requires-clause-differs
add_control-requires-clause-differs g c = (may_own c.self.inside.outline c.args.handler c.args.ctrl (sym c.control_refusal.ensures ∙ c.in_default.is)).2

-- the closures stay
pub invariant_of-self : goal.invariant_of-self
invariant_of-self g c =
    let plan = c.self.inside.outline in
    c.self.invariant ∙ calls_stay_at plan (with_control plan c.args.handler c.args.ctrl) c.add_control.new.self (length plan.controls) c.add_control.result c.add_control.ensures.ok c.add_control.ensures.err refl

pub returns-clause-ok : goal.returns-clause-ok
returns-clause-ok g c =
    elim c.match-add_control.branch [
      | in-Ok w ↦ rw (w.result-is, ← c.self.view_is) (sym c.control_refusal.ensures ∙ c.in_default.is, w.in-Ok.ensures.ok.0, w.in-Ok.ensures.ok.1)
      | in-Err w ↦ rw w.result-is tt
    ]

pub returns-clause-err : goal.returns-clause-err
returns-clause-err g c =
    elim c.match-add_control.branch [
      | in-Ok w ↦ rw w.result-is tt
      | in-Err w ↦ rw (w.result-is, ← c.self.view_is) (for_memory (control_refusal c.self.inside.outline c.args.handler c.args.ctrl) (sym c.control_refusal.ensures ∙ c.in_default.is), w.in-Err.ensures.err)
    ]
