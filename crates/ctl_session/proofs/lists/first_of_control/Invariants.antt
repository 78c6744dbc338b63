use Rattle.std.proofs.Common.{◌≡◌, None}
use Rattle.std.specs.List.{find, range_with_len}
use Rattle.ctl_session.specs.Lists.{names_same}
use Rattle.ctl_session.proofs.lists.first_of_control.Given as goal

-- no entry so far names the control
abbrev pub invariant-loop-other : goal.invariant-loop-other
invariant-loop-other l = find (names_same l.arg l.place) (range_with_len 0 l.other) ≡ None
