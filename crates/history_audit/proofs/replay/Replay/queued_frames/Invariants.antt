use Rattle.std.proofs.Common.{◌≡◌, ◌≤◌, ◌-◌, length, map, take, vec_capacity}
use Rattle.history.specs.Past.{past}
use Rattle.device_history.specs.Forecasts.{queued_frame}
use Rattle.device_history.specs.Frames.{queue}
use Rattle.history_audit.proofs.replay.Replay.queued_frames.Given as goal

-- the frames so far, and room for the others
abbrev pub invariant-loop-request : goal.invariant-loop-request
invariant-loop-request g l = record {
  so_far : l.all.items ≡ map (queued_frame l.self.plan (past l.self.steps)) (take (length l.all.items) (queue (past l.self.steps)));
  within : length l.all.items ≤ length (queue (past l.self.steps));
  room : length (queue (past l.self.steps)) ≤ vec_capacity l.all;
}

-- the frames that are left
abbrev pub decreases-loop-request : goal.decreases-loop-request
decreases-loop-request g l = length (queue (past l.self.steps)) - length l.all.items
