use Rattle.std.proofs.Common.{◌≡◌, ◌∙◌, sym}
use Rattle.ctrl_forecast.specs.Looks.{seen}
use Rattle.ctrl_forecast.proofs.LikeLemmas.{same_parts, same_row, row_same}
use Rattle.ctrl_forecast.proofs.board.Row.is_like.Goals as goal

pub returns : goal.returns
returns c =
    let is : c.eq.result ≡ same_parts (seen c.args.self.now) (seen c.args.other.now) = c.eq.ensures in
    (λ h. same_row (seen c.args.self.now) (seen c.args.other.now) (sym is ∙ h), λ same. is ∙ row_same (seen c.args.self.now) (seen c.args.other.now) same)
