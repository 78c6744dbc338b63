use Rattle.std.proofs.Common.{◌≡◌, ◌<◌, ◌≤◌, ℕ, length, [], get_or, vec_capacity}
use Rattle.ctrl_handlers.specs.Visible.{IsIndexOf}
use Rattle.ctrl_handlers.proofs.showing.indexes.Given as goal

-- the indexes so far
abbrev pub invariant-loop-list : goal.invariant-loop-list
invariant-loop-list l = record {
  many : length l.indexes.items ≡ l.list-index;
  are : (h : ℕ) → h < l.list-index → IsIndexOf l.controls (get_or l.lists h []) (get_or l.indexes.items h []);
  room : length l.lists ≤ vec_capacity l.indexes;
}
