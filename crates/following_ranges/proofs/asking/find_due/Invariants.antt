use Rattle.std.proofs.Common.{◌≡◌, ◌≤◌, length, filter_map, vec_capacity}
use Rattle.std.specs.List.{All, range_with_len}
use Rattle.history.specs.Past.{past}
use Rattle.device_history.specs.Ranges.{ranges_now}
use Rattle.device_history.specs.Values.{now}
use Rattle.following_ranges.specs.Following.{IsOwn, due_for}
use Rattle.following_ranges.proofs.asking.find_due.Given as goal

-- what is due of the controls so far, and room for the others
abbrev pub invariant-loop-control : goal.invariant-loop-control
invariant-loop-control g l = record {
  due : l.due.items ≡ filter_map (due_for l.followers (ranges_now l.device.plan (past l.device.steps)) (now g.D.Validates.verdict l.device.plan (past l.device.steps))) (range_with_len 0 l.control);
  few : length l.due.items ≤ l.control;
  own : All (IsOwn l.device.plan) l.due.items;
  room : length l.device.plan.controls ≤ vec_capacity l.due;
}
