use Rattle.std.proofs.Common.{◌≡◌, ◌≤◌, ◌<◌, ℕ, None, Some, drop, slice_get}
use Rattle.ctrl_events.specs.Order.{logged}
use Rattle.ctrl_events.proofs.order.next_entry.Given as goal

-- the entries so far are empty
abbrev pub invariant-loop-place : goal.invariant-loop-place
invariant-loop-place l = record {
  rest : logged (drop l.place l.log) ≡ logged (drop l.from l.log);
  passed : (i : ℕ) → l.from ≤ i → i < l.place → slice_get l.log i ≡ Some None;
}
