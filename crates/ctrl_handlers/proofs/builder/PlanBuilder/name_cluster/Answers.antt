use Rattle.std.proofs.Common.{◌≡◌, None, refl, sym, ap, ◌∙◌, subst}
use Rattle.ctrl_handlers.specs.Plan.{PlanData, all_calls}
use Rattle.ctrl_handlers.specs.Builder.{cluster_refusal}
use Rattle.ctrl_handlers.proofs.BuilderLemmas.{calls_more}
use Rattle.ctrl_handlers.proofs.builder.PlanBuilder.name_cluster.Goals as goal

-- nothing refuses the cluster
pub add_cluster-requires : goal.add_cluster-requires
add_cluster-requires g c = subst (λ (p : PlanData). cluster_refusal p c.args.members.now c.args.manual ≡ None) (sym c.self.view_is) c.requires

-- one more cluster and its closures
pub invariant_of-self-in-Ok : goal.invariant_of-self-in-Ok
invariant_of-self-in-Ok g c =
    calls_more c.self.inside.outline _ _ _ _ _ _ _ _ c.self.invariant c.reserve.ensures.items c.push_reserved.ensures.items c.relations.ensures c.in-Ok.ensures.ok.1

-- or the closures stay
pub invariant_of-self : goal.invariant_of-self
invariant_of-self g c = c.reserve.ensures.items ∙ c.self.invariant

pub invariant_of-self-in-Err : goal.invariant_of-self-in-Err
invariant_of-self-in-Err g c = c.reserve.ensures.items ∙ c.self.invariant ∙ ap all_calls (sym c.in-Err.ensures.err)

pub returns-in-Ok-clause-ok : goal.returns-in-Ok-clause-ok
returns-in-Ok-clause-ok g c = rw (← c.self.view_is) (rw c.relations.ensures at c.in-Ok.ensures.ok)

pub returns-in-Err-clause-err : goal.returns-in-Err-clause-err
returns-in-Err-clause-err g c = (refl, c.in-Err.ensures.err ∙ c.self.view_is)

pub returns-then-is_err-clause-err : goal.returns-then-is_err-clause-err
returns-then-is_err-clause-err g c = (refl, c.self.view_is)
