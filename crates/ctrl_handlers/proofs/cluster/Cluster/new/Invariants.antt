use Rattle.std.proofs.Common.{◌≡◌, take}
use Rattle.ctrl_handlers.proofs.cluster.Cluster.new.Given as goal

-- the members so far
abbrev pub invariant-loop-member : goal.invariant-loop-member
invariant-loop-member l = l.all.items ≡ take l.member-index l.members
