use Rattle.std.proofs.Common.{◌≡◌, drop}
use Rattle.ctrl_clusters.specs.Judging.{takes_row}
use Rattle.ctrl_clusters.proofs.rows.takes_row.Given as goal

-- the answer stands among the members that are left
abbrev pub invariant-loop-place : goal.invariant-loop-place
invariant-loop-place l = takes_row l.ranges (drop l.place l.members) (drop l.place l.row) ≡ takes_row l.ranges l.members l.row
