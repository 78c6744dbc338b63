use Rattle.std.proofs.Common.{◌≤◌, length}
use Rattle.frame_forecast.proofs.WrittenLemmas.{AreWritten}
use Rattle.frame_forecast.proofs.sparse.write_given.Given as goal

-- those from a place on are written
abbrev pub invariant-loop-left : goal.invariant-loop-left
invariant-loop-left l = AreWritten l.moved l.given l.initial.values.items l.values.items l.left × (l.left ≤ length l.moved)

abbrev pub decreases-loop-left : goal.decreases-loop-left
decreases-loop-left l = l.left
