use Rattle.std.proofs.Common.{nat_eq, take}
use Rattle.std.specs.List.{list_any}
use Rattle.ctrl_clusters.specs.Following.{HaveFollowedAt}
use Rattle.ctrl_clusters.specs.Rows.{AreControlsOf}
use Rattle.ctrl_clusters.proofs.next.Next.follow_members.Given as goal

-- the members so far have followed
abbrev pub invariant-loop-member : goal.invariant-loop-member
invariant-loop-member g l = record {
  followed : HaveFollowedAt l.plan.followers (λ c. list_any (nat_eq c) (take l.member-index l.members)) l.initial.self.ranges l.initial.self.values.items l.self.ranges l.self.values.items;
  stay : AreControlsOf l.plan l.self.ranges;
}
