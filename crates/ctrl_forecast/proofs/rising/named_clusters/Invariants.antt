use Rattle.std.proofs.Common.{◌≡◌, take}
use Rattle.ctrl_forecast.specs.Boards.{named_clusters}
use Rattle.ctrl_forecast.proofs.rising.named_clusters.Given as goal

-- those of the pairs so far
abbrev pub invariant-loop-pair : goal.invariant-loop-pair
invariant-loop-pair g l = l.named.items ≡ named_clusters l.plan (take l.pair-index l.pairs)
