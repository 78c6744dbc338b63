use Rattle.std.proofs.Common.{◌≡◌, drop}
use Rattle.ctrl_clusters.specs.Rising.{with_all}
use Rattle.ctrl_clusters.proofs.reaching.add_all.Given as goal

-- what is left to put gives the whole
abbrev pub invariant-loop-other : goal.invariant-loop-other
invariant-loop-other l = with_all (drop l.other-index l.others) l.numbers.items ≡ with_all l.others l.initial.numbers.items
