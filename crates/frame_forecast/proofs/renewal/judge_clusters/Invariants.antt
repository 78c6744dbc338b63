use Rattle.std.proofs.Common.{◌+◌, drop, ◌≡◌, ◌≤◌, length}
use Rattle.ctrl_clusters.specs.Following.{ranges_under}
use Rattle.ctrl_clusters.specs.Rows.{AreControlsOf}
use Rattle.frame_forecast.specs.Sparse.{sparse_at, touched_among, values_upto}
use Rattle.frame_forecast.proofs.JudgedLemmas.{IsJudging}
use Rattle.frame_forecast.proofs.renewal.judge_clusters.Given as goal

-- the clusters so far are judged
abbrev pub invariant-loop-cluster : goal.invariant-loop-cluster
invariant-loop-cluster g l =
    IsJudging g.D.Validates.verdict l.at.plan.now (ranges_under l.at.plan.now.followers l.at.ranges.now (values_upto l.at.values.now l.initial.frames.items l.place)) l.at.grabs.now (values_upto l.at.values.now l.initial.frames.items l.place)
    l.at.values.now l.initial.frames.items l.frames.items l.place l.clusters l.cluster-index
    × (length l.values.items ≡ length l.at.plan.now.controls) × AreControlsOf l.at.plan.now l.ranges
    × (l.initial.work.asked ≤ l.work.asked) × (l.work.told ≡ l.initial.work.told)
    × (l.work.asked + touched_among l.at.plan.now (sparse_at l.initial.frames.items l.place).asked (drop l.cluster-index l.clusters) ≤ l.initial.work.asked + touched_among l.at.plan.now (sparse_at l.initial.frames.items l.place).asked l.clusters)
