use Rattle.std.proofs.Common.{rules, drop, replicate}
use Rattle.ctrl_types.proofs.ByteLemmas.{IsCleared-append, take-repeated}
use Rattle.ctrl_types.proofs.bytes.ByteRow.repeated.Goals as goal

pub invariant_of-result : goal.invariant_of-result
invariant_of-result c = IsCleared-append _ _ (search rules) (search rules)

pub returns : goal.returns
returns c = take-repeated c.copy_from_slice.new.self (drop c.args.len (replicate 32 0)) c.args.len c.args.byte (search rules) (search rules)
