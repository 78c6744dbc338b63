use Rattle.std.proofs.Common.{ℕ, ◌+◌, ◌≤◌, length, List, Option, None, Some, Bor, IfSome}
use Rattle.history_audit.specs.Replay.{IsProgressOf}
use Rattle.ctl_script.specs.Bindings.{bound_names}
use Rattle.ctl_script.specs.Lines.{lines_in, lines_behind}
use Rattle.ctl_script.proofs.Saying.{HasGone}
use Rattle.ctl_script.proofs.run.answer_script.Given as goal

-- how many lines are left at most
abbrev pub lines_left : Option (Bor (List ℕ)) → ℕ
lines_left None = 0
lines_left (Some text) = length text.now + 1

abbrev pub invariant-loop-rest : goal.invariant-loop-rest
invariant-loop-rest g l = (l.number + lines_left l.rest ≤ 1048577)
    × HasGone g.D.Validates.verdict g.D.Notifies.told l.known (lines_in l.fn.text) (lines_behind l.rest) (l.number + 1) (bound_names l.kept.names) l.fn.device l.device
    (g.W.Write.contents l.fn.writer) (g.W.Write.contents l.writer) × IfSome l.kept.made (IsProgressOf g.D.Validates.verdict l.device.plan l.device.steps)

abbrev pub decreases-loop-rest : goal.decreases-loop-rest
decreases-loop-rest g l = lines_left l.rest
