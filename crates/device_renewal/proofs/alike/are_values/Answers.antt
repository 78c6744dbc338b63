use Rattle.std.proofs.lemmas.Slice.Eq.{slice_eq-Decides}
use Rattle.ctrl_types.proofs.ValueLemmas.{eq_decides}
use Rattle.device_renewal.proofs.alike.are_values.Goals as goal

pub returns : goal.returns
returns c = slice_eq-Decides eq_decides c.args.one.now c.args.other.now c.eq.result c.eq.ensures
