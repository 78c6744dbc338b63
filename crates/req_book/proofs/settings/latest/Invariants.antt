use Rattle.std.proofs.Common.{◌≡◌, ◌≤◌, ◌-◌, ◌++◌, filter_map}
use Rattle.std.specs.List.{range_with_len}
use Rattle.ctrl_types.specs.Pairs.{last_value}
use Rattle.req_book.specs.Requests.{pair_of}
use Rattle.req_book.proofs.settings.latest.Given as goal

-- the pairs of the controls below the next
abbrev pub invariant-loop-control : goal.invariant-loop-control
invariant-loop-control l = record {
  ends : l.control ≤ l.controls;
  so_far : l.all.items ≡ filter_map (λ c. pair_of c (last_value (l.pairs ++ l.more) c)) (range_with_len 0 l.control);
}

abbrev pub decreases-loop-control : goal.decreases-loop-control
decreases-loop-control l = l.controls - l.control
