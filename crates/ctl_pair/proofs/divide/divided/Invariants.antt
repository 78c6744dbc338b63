use Rattle.std.proofs.Common.{◌≡◌, ℕ, ◌+◌, ◌≤◌, false, length, List, Option, None, Some, Bor}
use Rattle.ctl_script.specs.Lines.{lines_in, lines_behind}
use Rattle.ctl_pair.specs.Scripts.{scripts_in, behind_both}
use Rattle.ctl_pair.proofs.divide.divided.Given as goal

-- how many lines are left at most
abbrev pub lines_left : Option (Bor (List ℕ)) → ℕ
lines_left None = 0
lines_left (Some text) = length text.now + 1

abbrev pub invariant-loop-rest : goal.invariant-loop-rest
invariant-loop-rest l = (l.number + lines_left l.rest ≤ 1048577)
    × (scripts_in l.known false 1 (lines_in l.fn.text) ≡ behind_both l.scripts.first.items l.scripts.second.items (scripts_in l.known l.scripts.is_second (l.number + 1) (lines_behind l.rest)))

abbrev pub decreases-loop-rest : goal.decreases-loop-rest
decreases-loop-rest l = lines_left l.rest
