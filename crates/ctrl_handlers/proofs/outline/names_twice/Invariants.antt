use Rattle.std.proofs.Common.{◌≡◌, drop}
use Rattle.ctrl_handlers.specs.Plan.{names_twice}
use Rattle.ctrl_handlers.proofs.outline.names_twice.Given as goal

-- the answer stands among the numbers that are left
abbrev pub invariant-loop-place : goal.invariant-loop-place
invariant-loop-place l = names_twice (drop l.place l.numbers) ≡ names_twice l.numbers
