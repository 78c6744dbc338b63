use Rattle.std.proofs.Common.{List, ap, sym, ◌∙◌, arith}
use Rattle.ctrl_handlers.specs.ClusterData.{ClusterData}
use Rattle.ctrl_handlers.proofs.FinishLemmas.{with_alone, each_none, each_more}
use Rattle.ctrl_handlers.proofs.outline.cluster_each.Goals as goal

pub loop-control-init : goal.loop-control-init
loop-control-init c = record {
  so_far = sym (each_none c.args.clusters.now.items);
  room = omega (arith, c.requires);
}

-- one more control is in a cluster
pub loop-control-preserved : goal.loop-control-preserved
loop-control-preserved c = record {
  so_far = c.cluster_alone.ensures.clusters
      ∙ ap (λ (cs : List ClusterData). with_alone cs c.loop-control.control) c.loop-control.invariant.so_far
      ∙ sym (each_more c.args.clusters.now.items c.loop-control.control);
  room = omega (arith, c.cluster_alone.ensures.room, c.cluster_alone.ensures.few, c.loop-control.invariant.room);
}
