use Rattle.std.proofs.Common.{◌≡◌, ◌≤◌, ◌+◌, drop, length, map}
use Rattle.ctrl_handlers.specs.Plan.{members}
use Rattle.ctrl_forecast.specs.Forecasts.{naming_count}
use Rattle.ctrl_forecast.specs.Frames.{IsClusterRenewed, queued_of, setting}
use Rattle.ctrl_forecast.proofs.renewing.rejudge_cluster.Given as goal

-- the cluster is renewed in the frames so far, and asked for no oftener than they name it
abbrev pub invariant-loop-place : goal.invariant-loop-place
invariant-loop-place g l = record {
  renewed : IsClusterRenewed (setting g.D.Validates.verdict l.at.plan.now l.at.ranges.now l.at.values.now l.at.grabs.now) l.cluster l.place l.initial.frames.items l.frames.items;
  many : length l.frames.items ≡ length l.initial.frames.items;
  asked : l.work.asked + naming_count l.at.plan.now (drop l.place (map queued_of l.initial.frames.items)) l.cluster ≤ l.initial.work.asked + naming_count l.at.plan.now (drop l.from (map queued_of l.initial.frames.items)) l.cluster;
  grows : l.initial.work.asked ≤ l.work.asked;
  told : l.work.told ≡ l.initial.work.told;
  row : length l.row ≡ length (members l.at.plan.now l.cluster);
}
