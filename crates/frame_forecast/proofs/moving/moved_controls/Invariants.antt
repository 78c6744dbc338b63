use Rattle.std.proofs.Common.{◌≡◌}
use Rattle.std.specs.List.{filter, range_with_len}
use Rattle.frame_forecast.specs.Sparse.{can_move}
use Rattle.frame_forecast.proofs.moving.moved_controls.Given as goal

-- those so far that the pairs can move
abbrev pub invariant-loop-control : goal.invariant-loop-control
invariant-loop-control g l = l.moved.items ≡ filter (can_move l.plan l.pairs) (range_with_len 0 l.control)
