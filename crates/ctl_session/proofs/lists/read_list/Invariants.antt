use Rattle.std.proofs.Common.{◌≡◌, ◌≤◌, length, map, vec_capacity}
use Rattle.std.specs.List.{range_with_len}
use Rattle.ctl_session.specs.Lists.{entry_seen}
use Rattle.ctl_session.proofs.lists.read_list.Given as goal

-- the entries so far
abbrev pub invariant-loop-place : goal.invariant-loop-place
invariant-loop-place l = record {
  read : l.entries.items ≡ map (entry_seen l.forms l.arg) (range_with_len 0 l.place);
  each : length l.entries.items ≡ l.place;
  room : l.count ≤ vec_capacity l.entries;
}
