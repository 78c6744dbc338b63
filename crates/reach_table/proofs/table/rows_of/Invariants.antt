use Rattle.std.proofs.Common.{◌≡◌, ◌<◌, ◌≤◌, ℕ, [], length, get_or, vec_capacity}
use Rattle.reach_table.specs.Reached.{others_reached}
use Rattle.reach_table.proofs.table.rows_of.Given as goal

-- the rows so far
abbrev pub invariant-loop-from : goal.invariant-loop-from
invariant-loop-from l = record {
  many : length l.rows.items ≡ l.from;
  made : (n : ℕ) → n < l.from → get_or l.rows.items n [] ≡ others_reached l.count l.links n;
  room : l.count ≤ vec_capacity l.rows;
  marks : length l.marks ≡ l.count;
  before : length l.before ≡ l.count;
}
