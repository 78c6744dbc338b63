use Rattle.std.proofs.Common.{◌≡◌, ◌≤◌}
use Rattle.ctrl_clusters.specs.Rows.{value_at as value_of}
use Rattle.frame_forecast.specs.Sparse.{values_upto}
use Rattle.frame_forecast.proofs.sparse.value_before.Given as goal

-- the control has the value that it has before the frames that are left
abbrev pub invariant-loop-left : goal.invariant-loop-left
invariant-loop-left l = (l.left ≤ l.place) × (value_of (values_upto l.values l.frames l.left) l.control ≡ value_of (values_upto l.values l.frames l.place) l.control)

abbrev pub decreases-loop-left : goal.decreases-loop-left
decreases-loop-left l = l.left
