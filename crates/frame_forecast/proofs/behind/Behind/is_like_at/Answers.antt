use Rattle.std.proofs.Common.{◌≡◌, ◌∙◌, ap, subst, sym, Bool, IsTrue, ◌↔◌}
use Rattle.ctrl_types.specs.Values.{is_same}
use Rattle.ctrl_types.specs.declared.value.CtrlValue.{CtrlValue}
use Rattle.ctrl_types.proofs.ValueLemmas.{Decides-same}
use Rattle.ctrl_clusters.specs.Rows.{value_at}
use Rattle.frame_forecast.proofs.behind.Behind.is_like_at.Goals as goal

pub returns : goal.returns
returns c =
    let own : CtrlValue = value_at c.args.self.now c.args.control in
    let there : CtrlValue = value_at c.args.other.now c.args.control in
    let told : c.is_same.result ≡ is_same own there = c.is_same.ensures ∙ ap (λ (v : CtrlValue). is_same v c.value-2.result) c.value.ensures ∙ ap (is_same own) c.value-2.ensures in
    subst (λ (b : Bool). IsTrue b ↔ (own ≡ there)) (sym told) (Decides-same own there)
