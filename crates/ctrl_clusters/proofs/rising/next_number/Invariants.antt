use Rattle.std.proofs.Common.{take}
use Rattle.ctrl_clusters.specs.Rising.{IsNext}
use Rattle.ctrl_clusters.proofs.rising.next_number.Given as goal

-- the next of the numbers so far
abbrev pub invariant-loop-number : goal.invariant-loop-number
invariant-loop-number l = IsNext (take l.number-index l.numbers) l.from l.end l.next
