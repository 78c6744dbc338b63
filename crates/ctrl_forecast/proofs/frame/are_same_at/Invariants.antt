use Rattle.std.proofs.Common.{◌≡◌, drop}
use Rattle.ctrl_clusters.specs.Rows.{row_of}
use Rattle.ctrl_forecast.specs.Unchanged.{are_same_values}
use Rattle.ctrl_forecast.proofs.frame.are_same_at.Given as goal

-- the answer stands among the members that are left
abbrev pub invariant-loop-member : goal.invariant-loop-member
invariant-loop-member l = are_same_values (row_of l.values (drop l.member-index l.members)) (row_of l.others (drop l.member-index l.members)) ≡ are_same_values (row_of l.values l.members) (row_of l.others l.members)
