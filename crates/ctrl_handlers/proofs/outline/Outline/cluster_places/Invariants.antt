use Rattle.std.proofs.Common.{◌≡◌, ◌<◌, ◌≤◌, ℕ, length, get_or, Some, vec_capacity}
use Rattle.ctrl_handlers.specs.Plan.{cluster_of}
use Rattle.ctrl_handlers.proofs.outline.Outline.cluster_places.Given as goal

-- the places so far
abbrev pub invariant-loop-control : goal.invariant-loop-control
invariant-loop-control l = record {
  many : length l.places.items ≡ l.control;
  are : (c : ℕ) → c < l.control → cluster_of l.self c ≡ Some (get_or l.places.items c 0);
  room : length l.self.controls ≤ vec_capacity l.places;
}
