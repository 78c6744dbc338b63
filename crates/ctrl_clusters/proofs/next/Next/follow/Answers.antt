use Rattle.std.proofs.Common.{◌≡◌, ◌∙◌, ℕ, List, ap, length, subst, sym, eqb-true}
use Rattle.std.proofs.lemmas.List.{take_all}
use Rattle.range_followers.specs.declared.follower.Follower.{Follower}
use Rattle.ctrl_clusters.specs.Following.{HaveFollowedAt, inside_of}
use Rattle.ctrl_clusters.proofs.NextLemmas.{followed_cluster, ranges_followed, ranges_unled, values_followed, values_unled}
use Rattle.ctrl_clusters.proofs.next.Next.follow.Goals as goal

-- without followers all stays
pub returns-then-is_empty-clause-ranges : goal.returns-then-is_empty-clause-ranges
returns-then-is_empty-clause-ranges g c =
    ranges_unled c.args.plan.now.followers c.args.self.now.ranges c.args.self.now.values.items
    (ap (λ (fs : List Follower). length fs) (sym c.followers.ensures) ∙ eqb-true (length c.followers.result.now) 0 (sym c.if-is_empty.ensures))

pub returns-then-is_empty-clause-values : goal.returns-then-is_empty-clause-values
returns-then-is_empty-clause-values g c =
    values_unled c.args.plan.now.followers c.args.self.now.ranges c.args.self.now.values.items
    (ap (λ (fs : List Follower). length fs) (sym c.followers.ensures) ∙ eqb-true (length c.followers.result.now) 0 (sym c.if-is_empty.ensures))

-- one more cluster has followed
pub loop-cluster-preserved : goal.loop-cluster-preserved
loop-cluster-preserved g c = record {
  followed = followed_cluster c.args.plan.now c.args.clusters.now c.loop-cluster.cluster-index c.members.result.now c.args.self.now.ranges c.args.self.now.values.items c.loop-cluster.self.ranges c.loop-cluster.self.values.items
      c.follow_members.new.self.ranges c.follow_members.new.self.values.items c.members.ensures.plan c.requires.once c.loop-cluster-test.true c.requires.known c.members.ensures.members c.loop-cluster.invariant.followed c.follow_members.ensures.followed;
  stay = c.follow_members.ensures.stay;
}

-- so all have
pub returns-clause-ranges : goal.returns-clause-ranges
returns-clause-ranges g c =
    ranges_followed c.args.plan.now c.args.clusters.now c.args.self.now.ranges c.args.self.now.values.items c.loop-cluster.self.ranges c.loop-cluster.self.values.items c.requires.plan.many c.requires.followed
    (subst (λ (ks : List ℕ). HaveFollowedAt c.args.plan.now.followers (inside_of c.args.plan.now ks) c.args.self.now.ranges c.args.self.now.values.items c.loop-cluster.self.ranges c.loop-cluster.self.values.items)
    (take_all c.loop-cluster.cluster-index c.args.clusters.now c.loop-cluster-test.false) c.loop-cluster.invariant.followed)

pub returns-clause-values : goal.returns-clause-values
returns-clause-values g c =
    values_followed c.args.plan.now c.args.clusters.now c.args.self.now.ranges c.args.self.now.values.items c.loop-cluster.self.ranges c.loop-cluster.self.values.items c.requires.values c.requires.followed
    (subst (λ (ks : List ℕ). HaveFollowedAt c.args.plan.now.followers (inside_of c.args.plan.now ks) c.args.self.now.ranges c.args.self.now.values.items c.loop-cluster.self.ranges c.loop-cluster.self.values.items)
    (take_all c.loop-cluster.cluster-index c.args.clusters.now c.loop-cluster-test.false) c.loop-cluster.invariant.followed)
