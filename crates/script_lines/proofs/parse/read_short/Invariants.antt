use Rattle.std.proofs.Common.{◌≡◌, ◌++◌, ◌≤◌, length, map, take}
use Rattle.script_lines.specs.Commands.{words}
use Rattle.script_lines.proofs.parse.read_short.Given as goal

-- the words so far, and those that are left
abbrev pub invariant-loop-word : goal.invariant-loop-word
invariant-loop-word l = (l.count ≤ 5) × (length l.room ≡ 5) × (words l.operands ≡ map (λ w. w.now) (take l.count l.room) ++ words l.rest)

abbrev pub decreases-loop-word : goal.decreases-loop-word
decreases-loop-word l = length l.rest
