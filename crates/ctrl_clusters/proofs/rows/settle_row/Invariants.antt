use Rattle.std.proofs.Common.{◌≡◌, true, drop, take, length}
use Rattle.ctrl_clusters.specs.Rows.{overwritten, settle_row}
use Rattle.ctrl_clusters.specs.Judging.{takes_row}
use Rattle.ctrl_clusters.proofs.RowLemmas.{before}
use Rattle.ctrl_clusters.proofs.rows.settle_row.Given as goal

-- the values so far are settled, the others settle to the rest, and the members take the settled ones as they are
abbrev pub invariant-loop-place : goal.invariant-loop-place
invariant-loop-place l = record {
  rest : before (take l.place l.row) (settle_row l.ranges (drop l.place l.members) (overwritten l.values l.pairs (drop l.place l.members))) ≡ settle_row l.ranges l.members (overwritten l.values l.pairs l.members);
  taken : takes_row l.ranges (take l.place l.members) (take l.place l.row) ≡ true;
  long : length l.row ≡ length l.members;
}
