use Rattle.frame_forecast.proofs.SettlingLemmas.{IsSettlingAll}
use Rattle.frame_forecast.proofs.renewal.follow_clusters.Given as goal

-- the members of the clusters so far are settled
abbrev pub invariant-loop-cluster : goal.invariant-loop-cluster
invariant-loop-cluster g l = IsSettlingAll l.at.plan.now l.at.ranges.now l.at.values.now l.initial.frames.items l.frames.items l.place l.clusters l.cluster-index
