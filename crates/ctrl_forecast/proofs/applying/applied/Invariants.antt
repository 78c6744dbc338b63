use Rattle.std.proofs.Common.{◌≡◌, take}
use Rattle.ctrl_forecast.specs.Applied.{applied_pairs}
use Rattle.ctrl_forecast.proofs.applying.applied.Given as goal

-- those of the pairs so far
abbrev pub invariant-loop-pair : goal.invariant-loop-pair
invariant-loop-pair g l = l.applied.items ≡ applied_pairs l.plan l.values l.refused (take l.pair-index l.pairs)
