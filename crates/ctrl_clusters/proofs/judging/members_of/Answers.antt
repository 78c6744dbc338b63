use Rattle.std.proofs.Common.{ℕ, List, subst, sym}
use Rattle.ctrl_clusters.specs.Lone.{AreLone}
use Rattle.ctrl_clusters.proofs.LoneLemmas.{lone_members}
use Rattle.ctrl_clusters.proofs.judging.members_of.Goals as goal

-- an array is alone in its cluster
pub returns-clause-lone : goal.returns-clause-lone
returns-clause-lone g c =
    subst (λ (cs : List ℕ). AreLone c.args.at.now.ranges.now cs) (sym c.members.ensures.members) (lone_members c.args.at.now.plan.now c.args.at.now.ranges.now c.args.cluster c.members.ensures.plan c.args.at.now.ranged)
