use Rattle.std.proofs.Common.{◌≡◌, drop}
use Rattle.ctrl_lists.specs.Checks.{first_from, at_first, writing_check}
use Rattle.ctrl_lists.proofs.checks.first_unwritable.Given as goal

-- the first stands among those that are left
abbrev pub invariant-loop-place : goal.invariant-loop-place
invariant-loop-place g l =
    first_from (writing_check l.view.plan l.view.parts l.is_set) l.place (drop l.place l.pairs) ≡ at_first (writing_check l.view.plan l.view.parts l.is_set) l.pairs
