use Rattle.std.proofs.Common.{◌≡◌, take, length}
use Rattle.ctrl_clusters.specs.Rows.{row_of}
use Rattle.ctrl_clusters.proofs.writing.read_row.Given as goal

-- the values so far
abbrev pub invariant-loop-place : goal.invariant-loop-place
invariant-loop-place l = record {
  so_far : take l.place l.row ≡ row_of l.values (take l.place l.members);
  long : length l.row ≡ length l.members;
}
