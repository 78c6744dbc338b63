use Rattle.std.proofs.Common.{◌≡◌}
use Rattle.frame_forecast.specs.Sparse.{values_upto}
use Rattle.frame_forecast.proofs.behind.write_all.Given as goal

-- what the frames so far give is written
abbrev pub invariant-loop-frame : goal.invariant-loop-frame
invariant-loop-frame l = l.values.items ≡ values_upto l.initial.values.items l.frames l.frame-index
