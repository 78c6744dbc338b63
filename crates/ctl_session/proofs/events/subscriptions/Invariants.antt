use Rattle.std.proofs.Common.{◌≡◌, ◌≤◌, is_some, length, take}
use Rattle.std.specs.List.{filter, range_with_len}
use Rattle.history.specs.Past.{past}
use Rattle.device_history.specs.Subscriptions.{subscribed}
use Rattle.ctl_session.proofs.events.subscriptions.Given as goal

-- those of the controls so far
abbrev pub invariant-loop-control : goal.invariant-loop-control
invariant-loop-control g l = record {
  found : take l.count l.controls ≡ filter (λ c. is_some (subscribed (past l.device.steps) l.fh c)) (range_with_len 0 l.control);
  few : l.count ≤ l.control;
  long : length l.controls ≡ 256;
}
