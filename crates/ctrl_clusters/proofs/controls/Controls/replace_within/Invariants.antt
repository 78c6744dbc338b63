use Rattle.std.proofs.Common.{◌≡◌, length, drop}
use Rattle.ctrl_clusters.specs.ControlsData.{DifferIn}
use Rattle.ctrl_clusters.proofs.controls.Controls.replace_within.Given as goal

-- what is kept to be lent differs in the clusters that are left alone
abbrev pub invariant-loop-cluster : goal.invariant-loop-cluster
invariant-loop-cluster g l = record {
  same : l.self-inside.values.items ≡ l.fn.values.items;
  long : length l.spare.items ≡ length l.fn.values.items;
  left : DifferIn l.plan (drop l.cluster-index l.clusters) l.spare.items l.fn.values.items;
}
