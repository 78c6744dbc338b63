use Rattle.std.proofs.Common.{◌≡◌, ◌∙◌, ◌++◌, ◌∷◌, [], ap, List, refl, subst, sym}
use Rattle.ctrl_clusters.specs.Moments.{parts}
use Rattle.ctrl_forecast.specs.Forecasts.{QueuedData}
use Rattle.frame_forecast.specs.Boards.{BoardData, IsBoard, queued_in}
use Rattle.frame_forecast.specs.Sparse.{SparseFrame}
use Rattle.frame_forecast.proofs.BoardLemmas.{pushed_board}
use Rattle.frame_forecast.proofs.board.Board.push.Goals as goal

-- the frame is worked out over what those before it leave
pub returns-clause-ok : goal.returns-clause-ok
returns-clause-ok g c =
    pushed_board g.D.Validates.verdict c.args.at.now.plan.now (parts c.args.at.now) c.args.self.now (record { frames = c.renew_last.new.frames.items; room = c.renew_last.new.room }) c.in_ok-frame.frame c.args.queued.now c.push_reserved.new.self.items c.args.at.now.planned
    c.requires.rest c.requires.kept c.in_ok-frame.ensures.kept c.in_ok-frame.ensures.queued c.in_ok-frame.ensures.refused
    (c.push_reserved.ensures.items ∙ ap (λ (l : List SparseFrame). l ++ c.in_ok-frame.frame ∷ []) (c.in_ok-reserve.ensures.items ∙ ap (λ (b : BoardData). b.frames) c.self.view_is)) c.renew_last.ensures.frames c.renew_last.ensures.room
