use Rattle.std.proofs.Common.{◌≡◌, drop, length}
use Rattle.frame_forecast.specs.Sparse.{with_given_values}
use Rattle.frame_forecast.proofs.ending.load_given.Given as goal

-- the controls so far are written
abbrev pub invariant-loop-control : goal.invariant-loop-control
invariant-loop-control l =
    (with_given_values l.frame (drop l.control-index l.controls) l.values.items ≡ with_given_values l.frame l.controls l.initial.values.items) × (length l.values.items ≡ length l.initial.values.items)
