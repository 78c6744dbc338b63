use Rattle.std.proofs.Common.{◌≡◌, None}
use Rattle.std.specs.List.{find, range_with_len}
use Rattle.ctl_session.specs.Lists.{has_fault, read_at}
use Rattle.ctl_session.proofs.lists.first_with.Given as goal

-- no place so far has the fault
abbrev pub invariant-loop-place : goal.invariant-loop-place
invariant-loop-place l = find (λ place. has_fault l.fault (read_at l.forms l.arg place)) (range_with_len 0 l.place) ≡ None
