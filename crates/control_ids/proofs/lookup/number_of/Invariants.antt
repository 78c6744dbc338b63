use Rattle.std.proofs.Common.{◌≡◌, drop}
use Rattle.control_ids.specs.Ids.{number_of}
use Rattle.control_ids.proofs.lookup.number_of.Given as goal

-- the digits so far, and those that are left
abbrev pub invariant-loop-place : goal.invariant-loop-place
invariant-loop-place l = number_of l.number (drop l.place l.digits) ≡ number_of 0 l.digits
