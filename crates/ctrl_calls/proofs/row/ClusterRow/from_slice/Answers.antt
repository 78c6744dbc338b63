use Rattle.std.proofs.Common.{rules}
use Rattle.ctrl_calls.proofs.RowLemmas.{IsCleared-append}
use Rattle.ctrl_calls.proofs.row.ClusterRow.from_slice.Goals as goal

pub invariant_of-result : goal.invariant_of-result
invariant_of-result c = IsCleared-append _ _ (search rules) (search rules)
