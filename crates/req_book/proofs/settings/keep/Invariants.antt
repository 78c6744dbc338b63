use Rattle.std.proofs.Common.{◌≡◌, map, take, length, unwrap_or, slice_index_or, None}
use Rattle.std.specs.List.{range_with_len}
use Rattle.ctrl_types.specs.Values.{zero_value}
use Rattle.req_book.proofs.settings.keep.Given as goal

-- the controls so far have their values
abbrev pub invariant-loop-control : goal.invariant-loop-control
invariant-loop-control l = record {
  so_far : take l.control l.values.items ≡ map (λ c. unwrap_or (slice_index_or l.applied c None) (slice_index_or l.present c zero_value)) (range_with_len 0 l.control);
  long : length l.values.items ≡ length l.initial.values.items;
}
