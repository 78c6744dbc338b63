use Rattle.std.proofs.Common.{◌≡◌, ◌≤◌, length}
use Rattle.script_lines.specs.Commands.{words}
use Rattle.script_lines.proofs.walk.behind_spaces.Given as goal

-- what is left has the same words
abbrev pub invariant-loop-rest : goal.invariant-loop-rest
invariant-loop-rest l = (words l.rest ≡ words l.text) × (length l.rest ≤ length l.text)

abbrev pub decreases-loop-rest : goal.decreases-loop-rest
decreases-loop-rest l = length l.rest
