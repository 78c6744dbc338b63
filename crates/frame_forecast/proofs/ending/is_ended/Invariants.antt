use Rattle.std.proofs.Common.{◌≡◌, drop}
use Rattle.frame_forecast.specs.Sparse.{are_same_reached, values_upto}
use Rattle.frame_forecast.proofs.ending.is_ended.Given as goal

-- the clusters so far have the same
abbrev pub invariant-loop-cluster : goal.invariant-loop-cluster
invariant-loop-cluster g l = are_same_reached l.plan (values_upto l.values l.frames l.place) l.others (drop l.cluster-index l.clusters) ≡ are_same_reached l.plan (values_upto l.values l.frames l.place) l.others l.clusters
