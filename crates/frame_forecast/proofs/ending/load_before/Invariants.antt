use Rattle.std.proofs.Common.{◌≡◌, drop, length}
use Rattle.frame_forecast.specs.Sparse.{values_upto, with_rows_of}
use Rattle.frame_forecast.proofs.ending.load_before.Given as goal

-- the clusters so far are written
abbrev pub invariant-loop-cluster : goal.invariant-loop-cluster
invariant-loop-cluster g l =
    (with_rows_of l.plan (values_upto l.values l.frames l.place) (drop l.cluster-index l.clusters) l.spare.items ≡ with_rows_of l.plan (values_upto l.values l.frames l.place) l.clusters l.initial.spare.items) × (length l.spare.items ≡ length l.plan.controls)
