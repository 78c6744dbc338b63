use Rattle.std.proofs.Common.{◌≡◌, ℕ, ◌||◌, length, take, false, slice_index_or}
use Rattle.reach_table.specs.Reached.{is_led_to}
use Rattle.reach_table.proofs.marks.mark_next.Given as goal

-- marked is what the links so far lead to
abbrev pub invariant-loop-from : goal.invariant-loop-from
invariant-loop-from l = record {
  marked : (n : ℕ) → slice_index_or l.marks n false ≡ (slice_index_or l.fn.marks n false || is_led_to (take l.from-index l.links) (λ k. slice_index_or l.before k false) n);
  count : length l.marks ≡ length l.fn.marks;
}
