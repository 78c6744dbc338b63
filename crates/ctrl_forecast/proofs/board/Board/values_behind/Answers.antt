use Rattle.std.proofs.Common.{◌∙◌, ap}
use Rattle.ctrl_forecast.specs.Boards.{BoardData}
use Rattle.ctrl_forecast.specs.Forecasts.{values_behind}
use Rattle.ctrl_forecast.proofs.FrameLemmas.{frame_last}
use Rattle.ctrl_forecast.proofs.board.Board.values_behind.Goals as goal

pub returns-in-Some : goal.returns-in-Some
returns-in-Some c =
    c.values.ensures ∙ frame_last c.args.values.now c.self.inside.frames.items c.in-Some.frame.now (rw c.deref.ensures.value at c.in-Some.ensures.value)
    ∙ ap (λ (b : BoardData). values_behind c.args.values.now b.forecasts) c.self.view_is
