use Rattle.std.proofs.Common.{◌≡◌, take, length}
use Rattle.ctrl_calls.proofs.row_values.RowValues.to_cluster_row.Given as goal

-- the values so far
abbrev pub invariant-loop-place : goal.invariant-loop-place
invariant-loop-place l = record {
  so_far : take l.place l.row ≡ take l.place l.self;
  long : length l.row ≡ length l.self;
}
