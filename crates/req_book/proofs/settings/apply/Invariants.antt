use Rattle.std.proofs.Common.{◌≡◌, map, take, length, None}
use Rattle.std.specs.List.{range_with_len}
use Rattle.ctrl_types.specs.Pairs.{last_value}
use Rattle.req_book.proofs.settings.apply.Given as goal

-- the controls so far have nothing
abbrev pub invariant-loop-control : goal.invariant-loop-control
invariant-loop-control l = record {
  so_far : take l.control l.applied.items ≡ map (λ c. None) (range_with_len 0 l.control);
  long : length l.applied.items ≡ length l.initial.applied.items;
}

-- each control has what the pairs so far give it
abbrev pub invariant-loop-pair : goal.invariant-loop-pair
invariant-loop-pair l = l.applied.items ≡ map (last_value (take l.pair-index l.pairs)) (range_with_len 0 l.controls)
