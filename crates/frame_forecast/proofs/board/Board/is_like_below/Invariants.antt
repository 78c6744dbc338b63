use Rattle.std.proofs.Common.{◌≡◌, ◌<◌, ℕ, slice_get}
use Rattle.frame_forecast.specs.Seen.{all_seen}
use Rattle.frame_forecast.proofs.board.Board.is_like_below.Given as goal

-- the rows so far are the same
abbrev pub invariant-loop-place : goal.invariant-loop-place
invariant-loop-place l = (place : ℕ) → place < l.place → slice_get (all_seen l.values l.self.frames) place ≡ slice_get (all_seen l.others l.other.frames) place
