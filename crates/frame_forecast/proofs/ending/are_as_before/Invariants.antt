use Rattle.std.proofs.Common.{◌≡◌, drop}
use Rattle.frame_forecast.specs.Sparse.{are_same_on, values_upto}
use Rattle.frame_forecast.proofs.ending.are_as_before.Given as goal

-- the controls so far have the same
abbrev pub invariant-loop-control : goal.invariant-loop-control
invariant-loop-control l = are_same_on (values_upto l.values l.frames l.place) l.others (drop l.control-index l.controls) ≡ are_same_on (values_upto l.values l.frames l.place) l.others l.controls
