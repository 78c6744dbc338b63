use Rattle.std.proofs.Common.{◌≡◌, ◌≤◌, take, map, length, vec_capacity}
use Rattle.ctrl_lists.specs.Touched.{entry_in}
use Rattle.ctrl_lists.proofs.rows.entries_in.Given as goal

-- the entries so far
abbrev pub invariant-loop-pair : goal.invariant-loop-pair
invariant-loop-pair g l = record {
  so_far : l.entries.items ≡ map (λ p. entry_in l.at.plan.now l.at.values.now l.rows.rows p.control) (take l.pair-index l.pairs);
  room : length l.pairs ≤ vec_capacity l.entries;
}
