use Rattle.std.proofs.Common.{◌<◌, length, ap, ◌∙◌}
use Rattle.std.proofs.lemmas.List.{get_or_default}
use Rattle.ctrl_handlers.specs.ClusterData.{ClusterData}
use Rattle.ctrl_handlers.specs.Plan.{PlanData, no_cluster}
use Rattle.ctrl_handlers.proofs.outline.Outline.members.Goals as goal

-- the members are controls of the plan
pub returns-clause-known : goal.returns-clause-known
returns-clause-known c =
    let clusters = c.self.inside.clusters.items in
    let there : c.args.cluster < length clusters = rw (ap (λ (p : PlanData). p.clusters) c.self.view_is) c.requires in
    let are = c.members.ensures ∙ ap (λ (k : ClusterData). k.members) (c.index-cluster.ensures ∙ get_or_default clusters c.args.cluster c.index-cluster.result.now no_cluster there) in
    rw (are, ← c.self.view_is) (c.self.invariant.members_known c.args.cluster)

-- there are some
pub returns-clause-some : goal.returns-clause-some
returns-clause-some c =
    let clusters = c.self.inside.clusters.items in
    let there : c.args.cluster < length clusters = rw (ap (λ (p : PlanData). p.clusters) c.self.view_is) c.requires in
    let are = c.members.ensures ∙ ap (λ (k : ClusterData). k.members) (c.index-cluster.ensures ∙ get_or_default clusters c.args.cluster c.index-cluster.result.now no_cluster there) in
    rw are (c.self.invariant.some_members c.args.cluster there)

-- and not too many
pub returns-clause-few : goal.returns-clause-few
returns-clause-few c =
    let clusters = c.self.inside.clusters.items in
    let there : c.args.cluster < length clusters = rw (ap (λ (p : PlanData). p.clusters) c.self.view_is) c.requires in
    let are = c.members.ensures ∙ ap (λ (k : ClusterData). k.members) (c.index-cluster.ensures ∙ get_or_default clusters c.args.cluster c.index-cluster.result.now no_cluster there) in
    rw are (c.self.invariant.few_members c.args.cluster)

-- and they differ
pub returns-clause-differ : goal.returns-clause-differ
returns-clause-differ c =
    let clusters = c.self.inside.clusters.items in
    let there : c.args.cluster < length clusters = rw (ap (λ (p : PlanData). p.clusters) c.self.view_is) c.requires in
    let are = c.members.ensures ∙ ap (λ (k : ClusterData). k.members) (c.index-cluster.ensures ∙ get_or_default clusters c.args.cluster c.index-cluster.result.now no_cluster there) in
    rw are (c.self.invariant.members_differ c.args.cluster)
