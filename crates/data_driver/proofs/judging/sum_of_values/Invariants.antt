use Rattle.std.proofs.Common.{◌≡◌, ◌*◌, drop, pos, ◌+ℤ◌, ◌-ℤ◌, ◌≤ℤ◌}
use Rattle.data_driver.specs.Limits.{sum_of_values}
use Rattle.data_driver.proofs.judging.sum_of_values.Given as goal

-- the values so far and those behind make the whole sum, and those so far are so many values of 64 bits
abbrev pub invariant-loop-place : goal.invariant-loop-place
invariant-loop-place l = record {
  summed : l.sum +ℤ sum_of_values (drop l.place l.row) ≡ sum_of_values l.row;
  low : (pos 0 -ℤ pos (9223372036854775808 * l.place)) ≤ℤ l.sum;
  high : l.sum ≤ℤ pos (9223372036854775808 * l.place);
}
