use Rattle.std.proofs.Common.{◌≡◌, ◌<◌, ℕ}
use Rattle.ctrl_clusters.specs.Rows.{value_at}
use Rattle.frame_forecast.proofs.behind.Behind.is_like_below.Given as goal

-- the values so far are the same
abbrev pub invariant-loop-control : goal.invariant-loop-control
invariant-loop-control l = (k : ℕ) → k < l.control → value_at l.self k ≡ value_at l.other k
