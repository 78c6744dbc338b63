use Rattle.std.proofs.Common.{take}
use Rattle.camera_messages.specs.Replies.{Puts, values_told}
use Rattle.camera_messages.proofs.told_controls.put_values.Given as goal

-- the values so far
abbrev pub invariant-loop-value : goal.invariant-loop-value
invariant-loop-value l = Puts l.fn.reply l.reply (values_told (take l.value-index l.values))
