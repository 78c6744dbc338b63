use Rattle.std.proofs.Common.{rules}
use Rattle.ctrl_types.proofs.ByteLemmas.{IsCleared-append}
use Rattle.ctrl_types.proofs.bytes.ByteRow.from_slice.Goals as goal

pub invariant_of-result : goal.invariant_of-result
invariant_of-result c = IsCleared-append _ _ (search rules) (search rules)
