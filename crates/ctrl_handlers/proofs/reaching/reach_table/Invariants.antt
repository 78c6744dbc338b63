use Rattle.std.proofs.Common.{◌≡◌, take}
use Rattle.ctrl_handlers.specs.Plan.{links}
use Rattle.ctrl_handlers.proofs.reaching.reach_table.Given as goal

-- the links of the followers so far
abbrev pub invariant-loop-follower : goal.invariant-loop-follower
invariant-loop-follower l = l.all.items ≡ links l.places (take l.follower-index l.followers)
