use Rattle.std.proofs.Common.{◌≡◌, map, take}
use Rattle.std.specs.List.{range_with_len}
use Rattle.ctrl_clusters.specs.PresentFlags.{flags_under}
use Rattle.history_audit.proofs.scratch.are_flags.Given as goal

-- the flags so far
abbrev pub invariant-loop-control : goal.invariant-loop-control
invariant-loop-control g l = take l.control l.flags ≡ map (flags_under l.at.plan.now l.at.values.now l.at.grabs.now) (range_with_len 0 l.control)
