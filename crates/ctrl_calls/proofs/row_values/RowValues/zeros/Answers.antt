use Rattle.std.proofs.Common.{refl, pos, ap, ◌∙◌}
use Rattle.std.proofs.lemmas.List.{drop-replicate, take-replicate}
use Rattle.ctrl_calls.specs.Forms.{as_values}
use Rattle.ctrl_calls.proofs.FormLemmas.{as_zeros}
use Rattle.ctrl_calls.proofs.row_values.RowValues.zeros.Goals as goal

pub invariant_of-result : goal.invariant_of-result
invariant_of-result c = record { eight = refl; within = c.requires; zeros = drop-replicate c.args.len 8 (pos 0) }

pub returns : goal.returns
returns c = ap as_values (take-replicate c.args.len 8 (pos 0) c.requires) ∙ as_zeros c.args.len
