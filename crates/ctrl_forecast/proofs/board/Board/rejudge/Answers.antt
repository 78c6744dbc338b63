use Rattle.std.proofs.Common.{◌≡◌, ◌∙◌, List, map, sym, ap, arith}
use Rattle.ctrl_forecast.specs.Boards.{BoardData, board_of}
use Rattle.ctrl_forecast.specs.Forecasts.{named_by_frames}
use Rattle.ctrl_forecast.specs.Frames.{FrameData, queued_of}
use Rattle.ctrl_forecast.proofs.ReadyLemmas.{ready_changed}
use Rattle.ctrl_forecast.proofs.board.Board.rejudge.Goals as goal

pub rejudge_clusters-requires-clause-ready : goal.rejudge_clusters-requires-clause-ready
rejudge_clusters-requires-clause-ready g c =
    let fs : List FrameData = c.self.inside.frames.items in
    let asks : c.args.self.now.queued ≡ map queued_of fs = sym (ap (λ (b : BoardData). b.queued) c.self.view_is) in
    ready_changed g.D.Validates.verdict c.args.at.now.plan.now c.requires.kept.0 c.args.at.now.ranges.now c.requires.kept.2 c.args.at.now.grabs.now c.requires.kept.1 c.args.at.now.values.now c.args.clusters.now fs c.args.at.now.planned.is_plan c.args.at.now.valued
    c.requires.kept.4 (c.self.view_is ∙ c.requires.kept.3 ∙ ap (board_of g.D.Validates.verdict c.args.at.now.plan.now c.requires.kept.0 c.requires.kept.1 c.requires.kept.2) asks)

-- a frame that doesn't name the cluster asks nobody
pub returns-clause-asked : goal.returns-clause-asked
returns-clause-asked g c = omega (arith, c.rejudge_clusters.ensures.asked, ap (λ (b : BoardData). named_by_frames c.args.at.now.plan.now b.queued c.args.clusters.now) c.self.view_is)
