use Rattle.std.proofs.Common.{◌≡◌, ◌≤◌, ◌+◌, drop}
use Rattle.ctrl_forecast.proofs.LaidLemmas.{IsLaid, laying}
use Rattle.ctrl_forecast.proofs.laying.overlay_named.Given as goal

-- the clusters so far have their rows, or are refused; each asked once at most
abbrev pub invariant-loop-cluster : goal.invariant-loop-cluster
invariant-loop-cluster g l = record {
  laid : IsLaid (laying g.D.Validates.verdict l.at.plan.now l.at.ranges.now l.at.values.now l.at.grabs.now l.pairs) (drop l.cluster-index l.named) l.after.items l.refused.items;
  asked : l.work.asked ≤ l.initial.work.asked + l.cluster-index;
  grows : l.initial.work.asked ≤ l.work.asked;
  told : l.work.told ≡ l.initial.work.told;
}
