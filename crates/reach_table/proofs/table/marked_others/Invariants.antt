use Rattle.std.proofs.Common.{◌≡◌, ◌&&◌, not, filter, false, nat_eq, slice_index_or}
use Rattle.std.specs.List.{range_with_len}
use Rattle.reach_table.proofs.table.marked_others.Given as goal

-- the marked ones so far
abbrev pub invariant-loop-number : goal.invariant-loop-number
invariant-loop-number l = l.row ≡ filter (λ n. slice_index_or l.marks n false && not (nat_eq l.from n)) (range_with_len 0 l.number)
