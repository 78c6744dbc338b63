use Rattle.std.proofs.Common.{◌≡◌, ◌≤◌, ◌+◌, map, drop, take}
use Rattle.ctrl_forecast.specs.Forecasts.{named_by_frames}
use Rattle.ctrl_forecast.specs.Frames.{AreRenewed, queued_of, setting}
use Rattle.ctrl_forecast.proofs.renewing.renew_clusters.Given as goal

-- the clusters so far are renewed
abbrev pub invariant-loop-cluster : goal.invariant-loop-cluster
invariant-loop-cluster g l = record {
  renewed : AreRenewed (setting g.D.Validates.verdict l.at.plan.now l.at.ranges.now l.at.values.now l.at.grabs.now) (take l.cluster-index l.clusters) l.initial.frames.items l.frames.items;
  asked : l.work.asked ≤ l.initial.work.asked + named_by_frames l.at.plan.now (drop l.from (map queued_of l.initial.frames.items)) (take l.cluster-index l.clusters);
  grows : l.initial.work.asked ≤ l.work.asked;
  told : l.work.told ≡ l.initial.work.told;
}
