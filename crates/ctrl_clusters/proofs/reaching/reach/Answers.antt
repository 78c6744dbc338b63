use Rattle.std.proofs.Common.{◌∙◌, ℕ, true, List, ap, get_or}
use Rattle.ctrl_handlers.specs.Plan.{reached_from}
use Rattle.ctrl_clusters.specs.Rising.{with_all, with_or_without}
use Rattle.ctrl_clusters.proofs.ReachedLemmas.{reached_more, reached_none}
use Rattle.ctrl_clusters.proofs.reaching.reach.Goals as goal

pub loop-cluster-init : goal.loop-cluster-init
loop-cluster-init g c = c.clear.ensures.items ∙ reached_none c.args.plan.now

-- one more cluster, and what it reaches
pub loop-cluster-preserved : goal.loop-cluster-preserved
loop-cluster-preserved g c =
    let k : ℕ = get_or c.args.clusters.now c.loop-cluster.cluster-index 0 in
    c.in_ok-add_all.ensures
    ∙ ap (λ (js : List ℕ). with_all js c.add.new.numbers.items) c.reached.ensures
    ∙ ap (with_all (reached_from c.args.plan.now k)) (c.in_ok-add.ensures ∙ ap (with_or_without k true) c.loop-cluster.invariant)
    ∙ reached_more c.args.plan.now c.args.clusters.now c.loop-cluster.cluster-index c.loop-cluster-test.true (c.requires c.loop-cluster.cluster-index 0 c.loop-cluster-test.true)
