use Rattle.std.proofs.Common.{◌≡◌, ◌≤◌, length, map, take, vec_capacity}
use Rattle.std.specs.List.{All}
use Rattle.device_state.specs.Runs.{IsRun}
use Rattle.following_ranges.specs.Following.{IsOfRoom, range_call, range_for}
use Rattle.following_ranges.proofs.asking.ask_due.Given as goal

-- those so far were asked for, one after another
abbrev pub invariant-loop-one : goal.invariant-loop-one
invariant-loop-one g l = record {
  exactly : map range_for l.asked.items ≡ take l.one-index l.due;
  one_by_one : IsRun g.D.Validates.verdict l.fn.device (map (range_call l.seat) l.asked.items) l.device;
  plan : l.device.plan ≡ l.fn.device.plan;
  of_room : All (λ one. IsOfRoom one.refusal) l.asked.items;
  room : length l.due ≤ vec_capacity l.asked;
}
