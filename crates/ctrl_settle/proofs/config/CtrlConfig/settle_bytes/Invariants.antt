use Rattle.std.proofs.Common.{◌≡◌, map, take, length}
use Rattle.ctrl_settle.specs.Settle.{settled_byte}
use Rattle.ctrl_settle.proofs.config.CtrlConfig.settle_bytes.Given as goal

-- the bytes so far are settled
abbrev pub invariant-loop-place : goal.invariant-loop-place
invariant-loop-place l = record {
  so_far : take l.place l.settled ≡ map (settled_byte l.self) (take l.place l.row);
  long : length l.settled ≡ length l.row;
}
