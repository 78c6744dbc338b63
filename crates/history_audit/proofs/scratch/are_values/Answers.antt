use Rattle.std.proofs.lemmas.Slice.Eq.{slice_eq-Decides}
use Rattle.ctrl_types.proofs.ValueLemmas.{eq_decides}
use Rattle.history_audit.proofs.scratch.are_values.Goals as goal

pub returns : goal.returns
returns c = slice_eq-Decides eq_decides c.args.own.now c.args.values.now c.eq.result c.eq.ensures
