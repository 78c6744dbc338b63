use Rattle.std.proofs.Common.{take}
use Rattle.ctrl_clusters.specs.Following.{HaveFollowedAt, inside_of}
use Rattle.ctrl_clusters.specs.Rows.{AreControlsOf}
use Rattle.ctrl_clusters.proofs.next.Next.follow.Given as goal

-- the controls of the clusters so far have followed
abbrev pub invariant-loop-cluster : goal.invariant-loop-cluster
invariant-loop-cluster g l = record {
  followed : HaveFollowedAt l.plan.followers (inside_of l.plan (take l.cluster-index l.clusters)) l.initial.self.ranges l.initial.self.values.items l.self.ranges l.self.values.items;
  stay : AreControlsOf l.plan l.self.ranges;
}
