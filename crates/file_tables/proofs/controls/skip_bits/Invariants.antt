use Rattle.std.proofs.Common.{◌≡◌, drop, map}
use Rattle.toml.specs.View.{view}
use Rattle.file_tables.specs.Controls.{bits_from, skip_bits_of, skipped}
use Rattle.file_faults.specs.declared.key.Key.TheVariants as keys
use Rattle.file_faults.specs.declared.problem.Problem.TheVariants as problems
use Rattle.file_tables.proofs.controls.skip_bits.Given as goal

-- the bits so far and those of the values that are left
abbrev pub invariant-loop-place : goal.invariant-loop-place
invariant-loop-place l = bits_from skipped keys.Skip problems.NotIndex l.skip l.place (map view (drop l.place l.values)) ≡ skip_bits_of (map view l.values)
