use Rattle.ctrl_types.proofs.ByteLemmas.{take-slice_set}
use Rattle.ctrl_types.proofs.bytes.ByteRow.with.Goals as goal

pub returns : goal.returns
returns c = take-slice_set _ _ _ _ c.self.invariant c.self.view_is c.requires
