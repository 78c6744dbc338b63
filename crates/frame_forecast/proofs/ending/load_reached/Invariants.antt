use Rattle.std.proofs.Common.{◌≡◌, drop, length}
use Rattle.frame_forecast.specs.Sparse.{with_reached_values}
use Rattle.frame_forecast.proofs.ending.load_reached.Given as goal

-- the clusters so far are written
abbrev pub invariant-loop-cluster : goal.invariant-loop-cluster
invariant-loop-cluster g l =
    (with_reached_values l.plan l.frame (drop l.cluster-index l.clusters) l.values.items ≡ with_reached_values l.plan l.frame l.clusters l.initial.values.items) × (length l.values.items ≡ length l.plan.controls)
