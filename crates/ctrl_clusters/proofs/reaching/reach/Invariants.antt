use Rattle.std.proofs.Common.{◌≡◌, take}
use Rattle.ctrl_clusters.specs.Following.{reached_clusters}
use Rattle.ctrl_clusters.proofs.reaching.reach.Given as goal

-- what the clusters so far reach
abbrev pub invariant-loop-cluster : goal.invariant-loop-cluster
invariant-loop-cluster g l = l.reached.items ≡ reached_clusters l.plan (take l.cluster-index l.clusters)
