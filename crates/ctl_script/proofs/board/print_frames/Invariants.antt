use Rattle.std.specs.Io.KnownBytes.{Appends}
use Rattle.history.specs.Past.{past}
use Rattle.ctl_script.specs.Board.{IsSame, queued_lines}
use Rattle.ctl_script.proofs.board.print_frames.Given as goal

abbrev pub invariant-loop-place : goal.invariant-loop-place
invariant-loop-place g l = IsSame l.fn.device l.device
    × Appends (g.W.Write.contents l.fn.writer) (g.W.Write.contents l.writer) (queued_lines g.D.Validates.verdict l.fn.device.plan (past l.fn.device.steps) l.place)
