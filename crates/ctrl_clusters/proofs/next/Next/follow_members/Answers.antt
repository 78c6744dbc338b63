use Rattle.ctrl_clusters.proofs.NextLemmas.{followed_next}
use Rattle.ctrl_clusters.proofs.next.Next.follow_members.Goals as goal

-- one more member has followed
pub loop-member-preserved : goal.loop-member-preserved
loop-member-preserved g c = record {
  followed = followed_next c.args.plan.now c.args.members.now c.loop-member.member-index c.args.self.now.ranges c.args.self.now.values.items c.loop-member.self.ranges c.loop-member.self.values.items c.follow_one.new.self.ranges c.follow_one.new.self.values.items
      c.requires.sound c.requires.once c.loop-member-test.true c.loop-member.invariant.followed c.follow_one.ensures.followed;
  stay = c.follow_one.ensures.stay;
}
