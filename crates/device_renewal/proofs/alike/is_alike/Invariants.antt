use Rattle.std.proofs.Common.{ℕ, ◌<◌}
use Rattle.device_renewal.specs.Alike.{IsAlike}
use Rattle.device_renewal.proofs.alike.is_alike.Given as goal

abbrev pub invariant-loop-control : goal.invariant-loop-control
invariant-loop-control g l = (k : ℕ) → k < l.control → IsAlike g.D.Validates.verdict l.one l.other k
