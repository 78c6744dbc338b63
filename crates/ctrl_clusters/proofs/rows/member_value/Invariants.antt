use Rattle.std.proofs.Common.{◌≡◌, drop}
use Rattle.ctrl_clusters.specs.Rows.{member_value}
use Rattle.ctrl_clusters.proofs.rows.member_value.Given as goal

-- the value stands among the members that are left
abbrev pub invariant-loop-place : goal.invariant-loop-place
invariant-loop-place l = member_value (drop l.place l.members) (drop l.place l.row) l.control ≡ member_value l.members l.row l.control
