use Rattle.std.proofs.Common.{ap, sym, ◌∙◌}
use Rattle.ctrl_forecast.specs.Boards.{board_of}
use Rattle.ctrl_forecast.specs.Forecasts.{forecasts}
use Rattle.device_history.specs.declared.ask.Step.{Step}
use Rattle.device_parts.specs.QueuedFrames.{queued_after}
use Rattle.device_parts.proofs.with_forecasts.change_with_forecasts.Goals as goal

-- all frames are taken
pub returns-in_ok-change_requests_and_events-in-StreamOff-clause-board : goal.returns-in_ok-change_requests_and_events-in-StreamOff-clause-board
unfolding forecasts
returns-in_ok-change_requests_and_events-in-StreamOff-clause-board g c =
    c.clear.ensures
    ∙ ap (λ (s : Step). board_of g.D.Validates.verdict c.args.at.now.plan.now c.args.at.now.ranges.now c.args.at.now.values.now c.args.at.now.grabs.now (queued_after c.args.frames.now s c.args.board.now.queued)) (sym c.in-StreamOff.is)
