use Rattle.std.proofs.Common.{◌≡◌, ◌∙◌, ◌<◌, length, slice_get, ap, arith, sym, List}
use Rattle.std.proofs.lemmas.Bool.{false≢true}
use Rattle.ctrl_forecast.specs.declared.board.Forecast.{Forecast}
use Rattle.ctrl_forecast.proofs.LikeLemmas.{same_rows}
use Rattle.frame_forecast.specs.Seen.{all_seen}
use Rattle.frame_forecast.proofs.BoardLemmas.{length_seen}
use Rattle.frame_forecast.proofs.board.Board.is_like.Goals as goal

-- not as many rows
pub returns-then-len : goal.returns-then-len
returns-then-len c = (
  λ h. absurd (false≢true h),
  λ same. absurd (omega
      (arith, ap (λ (rows : List Forecast). length rows) same, length_seen c.args.values.now c.args.self.now.frames, length_seen c.args.others.now c.args.other.now.frames, c.len.ensures.frames, c.len-2.ensures.frames, c.if-len.true)),
)

-- as many rows, and the same at each place
pub returns : goal.returns
returns c = (
  λ h. same_rows (all_seen c.args.values.now c.args.self.now.frames) (all_seen c.args.others.now c.args.other.now.frames)
      (length_seen c.args.values.now c.args.self.now.frames ∙ omega (arith, c.len.ensures.frames, c.len-2.ensures.frames, c.if-len.false) ∙ sym (length_seen c.args.others.now c.args.other.now.frames))
      (λ i within. c.is_like_below.ensures.0 h i (omega (arith, within, length_seen c.args.values.now c.args.self.now.frames, c.len-3.ensures.frames))),
  λ same. c.is_like_below.ensures.1 (λ place within. ap (λ (rows : List Forecast). slice_get rows place) same),
)
