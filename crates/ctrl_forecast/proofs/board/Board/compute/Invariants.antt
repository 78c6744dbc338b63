use Rattle.std.proofs.Common.{◌≡◌, ◌≤◌, ◌+◌, take}
use Rattle.ctrl_forecast.specs.Boards.{board_of}
use Rattle.ctrl_forecast.specs.Forecasts.{touched_by_all}
use Rattle.ctrl_forecast.proofs.board.Board.compute.Given as goal

-- the frames so far are kept
abbrev pub invariant-loop-frame : goal.invariant-loop-frame
invariant-loop-frame g l = record {
  kept : l.board ≡ board_of g.D.Validates.verdict l.at.plan.now l.at.ranges.now l.at.values.now l.at.grabs.now (take l.frame-index l.queued);
  asked : l.work.asked ≤ l.initial.work.asked + touched_by_all l.at.plan.now (take l.frame-index l.queued);
  told : l.work.told ≡ l.initial.work.told;
}
