use Rattle.std.proofs.Common.{◌≡◌, drop}
use Rattle.std.specs.List.{list_any}
use Rattle.ctrl_handlers.specs.Plan.{members}
use Rattle.frame_forecast.specs.Sparse.{gives_any, gives_inside}
use Rattle.frame_forecast.proofs.renewal.gives_inside.Given as goal

-- none of the clusters so far has one
abbrev pub invariant-loop-cluster : goal.invariant-loop-cluster
invariant-loop-cluster g l = list_any (λ k. gives_any l.frame (members l.plan k)) (drop l.cluster-index l.clusters) ≡ gives_inside l.plan l.clusters l.frame
