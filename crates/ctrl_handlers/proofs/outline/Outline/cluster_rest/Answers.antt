use Rattle.std.proofs.Common.{List, length, ap, ◌∙◌, sym, refl}
use Rattle.ctrl_handlers.specs.ClusterData.{ClusterData}
use Rattle.ctrl_handlers.specs.Plan.{PlanData}
use Rattle.ctrl_handlers.proofs.FinishLemmas.{with_each, finished_is}
use Rattle.ctrl_handlers.proofs.outline.Outline.cluster_rest.Goals as goal

-- the plan is finished now
pub invariant_of-self-2 : goal.invariant_of-self-2
invariant_of-self-2 c =
    let count = c.control_count-count.ensures.count ∙ ap (λ (p : PlanData). length p.controls) (sym c.self.view_is) in
    let clusters = c.cluster_each.ensures ∙ ap (λ (cs : List ClusterData). with_each cs c.control_count-count.result) c.in_ok-reserve.ensures.items in
    rw (clusters, count) (finished_is _ c.self.invariant).is_plan

pub returns-clause-ok : goal.returns-clause-ok
returns-clause-ok c =
    let count = c.control_count-count.ensures.count ∙ ap (λ (p : PlanData). length p.controls) (sym c.self.view_is) in
    let clusters = c.cluster_each.ensures ∙ ap (λ (cs : List ClusterData). with_each cs c.control_count-count.result) c.in_ok-reserve.ensures.items in
    rw (clusters, count, ← c.self.view_is) (refl, finished_is _ c.self.invariant)
