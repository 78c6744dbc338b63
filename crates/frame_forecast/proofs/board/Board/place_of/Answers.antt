use Rattle.std.proofs.Common.{nat_eq, ap, ◌∙◌}
use Rattle.std.specs.List.{position}
use Rattle.ctrl_forecast.specs.Forecasts.{QueuedData}
use Rattle.frame_forecast.specs.Boards.{BoardData, queued_in}
use Rattle.frame_forecast.specs.Sparse.{SparseFrame}
use Rattle.frame_forecast.proofs.BoardLemmas.{place_among}
use Rattle.frame_forecast.proofs.board.Board.place_of.Goals as goal

-- the frames are queued as they are kept
pub returns : goal.returns
returns c =
    c.place_in.ensures ∙ ap (position (λ (f : SparseFrame). nat_eq c.args.request.0 f.request.0)) c.as_slice.ensures.value ∙ place_among c.args.request.0 c.self.inside.frames.items
    ∙ ap (λ (b : BoardData). position (λ (q : QueuedData). nat_eq c.args.request.0 q.request.0) (queued_in b)) c.self.view_is
