use Rattle.std.proofs.Common.{◌≡◌, ◌<◌, ℕ, length, false, slice_index_or}
use Rattle.reach_table.specs.Reached.{is_near}
use Rattle.reach_table.proofs.marks.mark_reached.Given as goal

-- marked is what so many links lead to
abbrev pub invariant-loop : goal.invariant-loop
invariant-loop l = record {
  marked : (n : ℕ) → n < length l.fn.marks → slice_index_or l.marks n false ≡ is_near l.links l.from l.index n;
  count : length l.marks ≡ length l.fn.marks;
  before : length l.before ≡ length l.fn.before;
}
