use Rattle.std.proofs.Common.{◌≡◌, ◌≤◌, map, take, length, vec_capacity}
use Rattle.device_history.specs.Asking.{entry_of}
use Rattle.history_audit.proofs.replay.Replay.entries.Given as goal

-- the entries so far
abbrev pub invariant-loop-pair : goal.invariant-loop-pair
invariant-loop-pair g l = record {
  so_far : l.entries.items ≡ map (entry_of l.self.plan) (take l.pair-index l.pairs);
  room : length l.pairs ≤ vec_capacity l.entries;
}
