use Rattle.std.proofs.Common.{◌≡◌, length, ap, ◌∙◌, arith}
use Rattle.ctrl_clusters.specs.Overlay.{overlay, refused_clusters}
use Rattle.ctrl_forecast.specs.Boards.{BoardData, named_clusters}
use Rattle.ctrl_forecast.specs.Forecasts.{QueuedData}
use Rattle.ctrl_forecast.specs.declared.board.Forecast.{Forecast}
use Rattle.history_audit.proofs.EvaluateLemmas.{first_laid}
use Rattle.history_audit.proofs.replay.Replay.lay.Goals as goal

-- a frame stands on the board
pub begin-requires : goal.begin-requires
begin-requires g c = omega (arith, ap (λ (b : BoardData). length b.queued) c.in_ok-board.ensures.frames)

-- it has what the request asks for, laid over the present values
pub returns-clause-values : goal.returns-clause-values
returns-clause-values g c =
    let laid = first_laid g.D.Validates.verdict c.at.result.plan.now c.at.result.ranges.now c.at.result.values.now c.at.result.grabs.now c.new-frame.result c.in_ok-board.board c.begin.result.0 c.begin.result.1 c.in_ok-board.ensures.frames c.begin.ensures.first c.begin.ensures.named in
    let asks : c.new-frame.result.asked ≡ c.asked_by.result.now = ap (λ (q : QueuedData). q.asked) c.new-frame.ensures in
    ap (λ (f : Forecast). f.values) laid.0
    ∙ (λ i. overlay g.D.Validates.verdict (c.at.ensures.plan i) (c.at.ensures.ranges i) (c.at.ensures.values i) (c.at.ensures.grabs i) ((asks ∙ c.asked_by.ensures) i))

pub returns-clause-refused : goal.returns-clause-refused
returns-clause-refused g c =
    let laid = first_laid g.D.Validates.verdict c.at.result.plan.now c.at.result.ranges.now c.at.result.values.now c.at.result.grabs.now c.new-frame.result c.in_ok-board.board c.begin.result.0 c.begin.result.1 c.in_ok-board.ensures.frames c.begin.ensures.first c.begin.ensures.named in
    let asks : c.new-frame.result.asked ≡ c.asked_by.result.now = ap (λ (q : QueuedData). q.asked) c.new-frame.ensures in
    ap (λ (f : Forecast). f.refused) laid.0
    ∙ (λ i. refused_clusters g.D.Validates.verdict (c.at.ensures.plan i) (c.at.ensures.ranges i) (c.at.ensures.values i) (c.at.ensures.grabs i) ((asks ∙ c.asked_by.ensures) i))

pub returns-clause-clusters : goal.returns-clause-clusters
returns-clause-clusters g c =
    let laid = first_laid g.D.Validates.verdict c.at.result.plan.now c.at.result.ranges.now c.at.result.values.now c.at.result.grabs.now c.new-frame.result c.in_ok-board.board c.begin.result.0 c.begin.result.1 c.in_ok-board.ensures.frames c.begin.ensures.first c.begin.ensures.named in
    let asks : c.new-frame.result.asked ≡ c.asked_by.result.now = ap (λ (q : QueuedData). q.asked) c.new-frame.ensures in
    laid.1 ∙ (λ i. named_clusters (c.at.ensures.plan i) ((asks ∙ c.asked_by.ensures) i))
