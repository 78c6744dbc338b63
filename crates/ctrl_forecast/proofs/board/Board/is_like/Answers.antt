use Rattle.std.proofs.Common.{slice_get, ap, arith, List}
use Rattle.ctrl_forecast.specs.declared.board.Forecast.{Forecast}
use Rattle.ctrl_forecast.proofs.LikeLemmas.{same_rows}
use Rattle.ctrl_forecast.proofs.board.Board.is_like.Goals as goal

-- as many rows, and the same at each place
pub returns : goal.returns
returns c = (
  λ h. same_rows c.args.self.now.forecasts c.args.other.now.forecasts (omega (arith, c.len.ensures.forecasts, c.len-2.ensures.forecasts, c.if-len.false)) (λ i within. c.is_like_below.ensures.0 h i (omega (arith, within, c.len-3.ensures.forecasts))),
  λ same. c.is_like_below.ensures.1 (λ place within. ap (λ (rows : List Forecast). slice_get rows place) same),
)
