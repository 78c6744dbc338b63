use Rattle.std.proofs.Common.{◌∙◌, ◌++◌, List, [], ◌∷◌, length, map, ap}
use Rattle.ctrl_clusters.specs.Rows.{Values}
use Rattle.ctrl_forecast.specs.declared.board.Forecast.{Forecast}
use Rattle.ctrl_forecast.specs.Boards.{BoardData}
use Rattle.ctrl_forecast.specs.Forecasts.{values_behind}
use Rattle.ctrl_forecast.specs.Frames.{FrameData, board_seen, forecast_of, frame_over}
use Rattle.ctrl_forecast.proofs.FrameLemmas.{behind_long, kept_more}
use Rattle.ctrl_forecast.proofs.board.Board.push.Goals as goal

pub invariant_of-behind-clause-valued : goal.invariant_of-behind-clause-valued
invariant_of-behind-clause-valued g c =
    ap length c.values_behind.ensures
    ∙ ap (λ (rows : List Forecast). length (values_behind c.args.at.now.values.now rows)) (ap (map forecast_of) c.reserve.ensures.items ∙ ap (λ (b : BoardData). b.forecasts) (c.self.view_is ∙ c.requires.kept))
    ∙ behind_long g.D.Validates.verdict c.args.at.now.plan.now c.args.at.now.ranges.now c.args.at.now.grabs.now c.args.at.now.values.now c.args.self.now.queued ∙ c.args.at.now.valued

pub returns-clause-ok : goal.returns-clause-ok
returns-clause-ok g c =
    let before : List FrameData = c.self.inside.frames.items in
    let over : Values → FrameData = λ values. frame_over g.D.Validates.verdict c.args.at.now.plan.now c.args.at.now.ranges.now values c.args.at.now.grabs.now c.args.queued.now in
    ap board_seen
    (c.push_reserved.ensures.items ∙ ap (λ (fs : List FrameData). fs ++ c.in_ok-frame.frame ∷ []) c.reserve.ensures.items
    ∙ ap (λ (f : FrameData). before ++ f ∷ [])
    (c.in_ok-frame.ensures.frame ∙ ap over (c.values_behind.ensures ∙ ap (λ (fs : List FrameData). values_behind c.args.at.now.values.now (map forecast_of fs)) c.reserve.ensures.items)))
    ∙ kept_more g.D.Validates.verdict c.args.at.now.plan.now c.args.at.now.ranges.now c.args.at.now.grabs.now c.args.at.now.values.now before c.args.self.now.queued c.args.queued.now (c.self.view_is ∙ c.requires.kept)
