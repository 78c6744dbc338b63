use Rattle.std.proofs.Common.{◌≡◌, drop, length}
use Rattle.frame_forecast.specs.Sparse.{values_upto, with_values_of}
use Rattle.frame_forecast.proofs.ending.load_values.Given as goal

-- the controls so far are written
abbrev pub invariant-loop-control : goal.invariant-loop-control
invariant-loop-control l =
    (with_values_of (values_upto l.values l.frames l.place) (drop l.control-index l.controls) l.spare.items ≡ with_values_of (values_upto l.values l.frames l.place) l.controls l.initial.spare.items) × (length l.spare.items ≡ length l.values)
