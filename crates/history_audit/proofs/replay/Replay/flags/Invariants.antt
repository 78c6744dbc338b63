use Rattle.std.proofs.Common.{◌≡◌, ◌≤◌, map, vec_capacity}
use Rattle.std.specs.List.{range_with_len}
use Rattle.history.specs.Past.{past}
use Rattle.device_history.specs.Flags.{flags_now}
use Rattle.history_audit.proofs.replay.Replay.flags.Given as goal

-- the flags so far, and room for the others
abbrev pub invariant-loop-control : goal.invariant-loop-control
invariant-loop-control g l = record {
  flags : l.all.items ≡ map (flags_now g.D.Validates.verdict l.self.plan (past l.self.steps)) (range_with_len 0 l.control);
  room : l.count ≤ vec_capacity l.all;
}
