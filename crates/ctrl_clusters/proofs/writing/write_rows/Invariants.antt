use Rattle.std.proofs.Common.{◌≡◌, take, length}
use Rattle.ctrl_clusters.specs.NewRows.{written}
use Rattle.ctrl_clusters.proofs.writing.write_rows.Given as goal

-- the rows so far are written
abbrev pub invariant-loop-new : goal.invariant-loop-new
invariant-loop-new g l = record {
  so_far : l.values.items ≡ written l.plan l.initial.values.items (take l.new-index l.rows);
  many : length l.values.items ≡ length l.plan.controls;
}
