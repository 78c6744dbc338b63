use Rattle.std.proofs.Common.{ℕ, ◌+◌, ◌≤◌, length, List, Option, None, Some, Bor, IfSome}
use Rattle.history_audit.specs.Replay.{IsProgressOf}
use Rattle.ctl_view.proofs.script.show_script.Given as goal

-- how many lines are left at most
abbrev pub lines_left : Option (Bor (List ℕ)) → ℕ
lines_left None = 0
lines_left (Some text) = length text.now + 1

abbrev pub invariant-loop-rest : goal.invariant-loop-rest
invariant-loop-rest g l = (l.number + lines_left l.rest ≤ 1048577) × IfSome l.made (IsProgressOf g.D.Validates.verdict l.device.plan l.device.steps)

abbrev pub decreases-loop-rest : goal.decreases-loop-rest
decreases-loop-rest g l = lines_left l.rest
