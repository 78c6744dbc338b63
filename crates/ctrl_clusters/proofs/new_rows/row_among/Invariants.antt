use Rattle.std.proofs.Common.{◌≡◌, drop}
use Rattle.ctrl_clusters.specs.NewRows.{row_among}
use Rattle.ctrl_clusters.proofs.new_rows.row_among.Given as goal

-- the row isn't among those so far
abbrev pub invariant-loop-new : goal.invariant-loop-new
invariant-loop-new l = row_among (drop l.new-index l.rows) l.cluster ≡ row_among l.rows l.cluster
