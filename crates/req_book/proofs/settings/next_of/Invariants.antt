use Rattle.std.proofs.Common.{take}
use Rattle.req_book.specs.Named.{IsNextNamed}
use Rattle.req_book.proofs.settings.next_of.Given as goal

-- the next of the pairs so far
abbrev pub invariant-loop-pair : goal.invariant-loop-pair
invariant-loop-pair l = IsNextNamed (take l.pair-index l.pairs) l.from l.end l.next
