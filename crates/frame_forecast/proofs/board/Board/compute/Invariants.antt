use Rattle.std.proofs.Common.{◌≡◌, ◌≤◌, ◌+◌, take}
use Rattle.ctrl_clusters.specs.Moments.{parts}
use Rattle.ctrl_forecast.specs.Forecasts.{touched_by_all}
use Rattle.frame_forecast.specs.Boards.{IsBoard}
use Rattle.frame_forecast.proofs.board.Board.compute.Given as goal

-- the frames so far are kept
abbrev pub invariant-loop-frame : goal.invariant-loop-frame
invariant-loop-frame g l = record {
  kept : IsBoard g.D.Validates.verdict l.at.plan.now (parts l.at) (take l.frame-index l.queued) l.board;
  asked : l.work.asked ≤ l.initial.work.asked + touched_by_all l.at.plan.now (take l.frame-index l.queued);
  told : l.work.told ≡ l.initial.work.told;
}
