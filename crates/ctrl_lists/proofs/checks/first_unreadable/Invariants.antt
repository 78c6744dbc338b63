use Rattle.std.proofs.Common.{◌≡◌, drop}
use Rattle.ctrl_lists.specs.Checks.{first_from, at_first, reading_check}
use Rattle.ctrl_lists.proofs.checks.first_unreadable.Given as goal

-- the first stands among those that are left
abbrev pub invariant-loop-place : goal.invariant-loop-place
invariant-loop-place g l = first_from (reading_check l.plan) l.place (drop l.place l.pairs) ≡ at_first (reading_check l.plan) l.pairs
