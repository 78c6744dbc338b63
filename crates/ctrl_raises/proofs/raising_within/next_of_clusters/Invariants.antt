use Rattle.std.proofs.Common.{take}
use Rattle.ctrl_raises.specs.Within.{IsNextMember}
use Rattle.ctrl_raises.proofs.raising_within.next_of_clusters.Given as goal

-- the next of the members of the clusters so far
abbrev pub invariant-loop-cluster : goal.invariant-loop-cluster
invariant-loop-cluster g l = IsNextMember l.plan (take l.cluster-index l.clusters) l.from l.end l.next
