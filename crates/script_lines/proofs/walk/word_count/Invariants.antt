use Rattle.std.proofs.Common.{◌≡◌, ◌+◌, ◌≤◌, length}
use Rattle.script_lines.specs.Commands.{words}
use Rattle.script_lines.proofs.walk.word_count.Given as goal

-- the words so far, and those that are left
abbrev pub invariant-loop-more : goal.invariant-loop-more
invariant-loop-more l = (l.count + length (words l.rest) ≡ length (words l.text)) × (l.count + length l.rest ≤ length l.text)

abbrev pub decreases-loop-more : goal.decreases-loop-more
decreases-loop-more l = length l.rest
