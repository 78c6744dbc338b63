use Rattle.std.proofs.Common.{length, ap, arith}
use Rattle.ctrl_handlers.specs.Plan.{PlanData}
use Rattle.ctrl_handlers.proofs.ClusterLemmas.{few_clusters}
use Rattle.ctrl_handlers.proofs.outline.Outline.cluster_count.Goals as goal

-- there are no more clusters than controls
pub overflow_cast-result : goal.overflow_cast-result
overflow_cast-result c = omega (arith, c.len.ensures, c.self.inside.clusters.ok.0, few_clusters _ c.self.invariant)

pub returns-clause-within : goal.returns-clause-within
returns-clause-within c =
    omega (arith, c.len.ensures, c.self.inside.clusters.ok.0, few_clusters _ c.self.invariant, ap (λ (p : PlanData). length p.controls) c.self.view_is)
