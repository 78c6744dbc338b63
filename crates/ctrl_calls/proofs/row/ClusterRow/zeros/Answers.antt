use Rattle.std.proofs.Common.{refl}
use Rattle.std.proofs.lemmas.List.{drop-replicate, take-replicate}
use Rattle.ctrl_types.specs.Values.{zero_value}
use Rattle.ctrl_calls.proofs.row.ClusterRow.zeros.Goals as goal

pub invariant_of-result : goal.invariant_of-result
invariant_of-result c = record { eight = refl; within = c.requires; zeros = drop-replicate c.args.len 8 zero_value }

pub returns : goal.returns
returns c = take-replicate c.args.len 8 zero_value c.requires
