use Rattle.std.proofs.Common.{◌≡◌, ◌∙◌, List, map, sym, ap, arith}
use Rattle.ctrl_forecast.specs.Boards.{BoardData, board_of}
use Rattle.ctrl_forecast.specs.Forecasts.{named_by_frames}
use Rattle.ctrl_forecast.specs.Frames.{FrameData, queued_of}
use Rattle.ctrl_forecast.proofs.TurnLemmas.{ready_values}
use Rattle.ctrl_forecast.proofs.board.Board.renew.Goals as goal

pub renew_clusters-requires-clause-ready : goal.renew_clusters-requires-clause-ready
renew_clusters-requires-clause-ready g c =
    let fs : List FrameData = c.self.inside.frames.items in
    let asks : c.args.self.now.queued ≡ map queued_of fs = sym (ap (λ (b : BoardData). b.queued) c.self.view_is) in
    ready_values g.D.Validates.verdict c.args.at.now.plan.now c.args.at.now.ranges.now c.args.at.now.grabs.now c.requires.kept.0 c.args.at.now.values.now c.args.clusters.now fs c.args.at.now.planned.is_plan c.args.at.now.valued
    c.requires.kept.2 (c.self.view_is ∙ c.requires.kept.1 ∙ ap (board_of g.D.Validates.verdict c.args.at.now.plan.now c.args.at.now.ranges.now c.requires.kept.0 c.args.at.now.grabs.now) asks)

-- a frame that doesn't name the cluster asks nobody
pub returns-clause-asked : goal.returns-clause-asked
returns-clause-asked g c = omega (arith, c.renew_clusters.ensures.asked, ap (λ (b : BoardData). named_by_frames c.args.at.now.plan.now b.queued c.args.clusters.now) c.self.view_is)
