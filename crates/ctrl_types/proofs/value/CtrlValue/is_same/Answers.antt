use Rattle.std.proofs.Common.{◌∙◌}
use Rattle.ctrl_types.proofs.ValueLemmas.{same_test}
use Rattle.ctrl_types.proofs.value.CtrlValue.is_same.Goals as goal

pub returns : goal.returns
returns c = c.eq.ensures ∙ same_test c.args.self.now c.args.other.now
