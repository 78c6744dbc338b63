use Rattle.std.proofs.Common.{◌≡◌, drop}
use Rattle.ctrl_clusters.specs.Rows.{row_of}
use Rattle.ctrl_forecast.specs.Unchanged.{are_same_values}
use Rattle.ctrl_forecast.proofs.frame.has_row.Given as goal

-- the answer stands among the members that are left
abbrev pub invariant-loop-place : goal.invariant-loop-place
invariant-loop-place l = are_same_values (row_of l.values (drop l.place l.members)) (drop l.place l.row) ≡ are_same_values (row_of l.values l.members) l.row
