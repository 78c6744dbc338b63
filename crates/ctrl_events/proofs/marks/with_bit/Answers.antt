use Rattle.std.proofs.Common.{w64}
use Rattle.std.proofs.lemmas.Nat.Bits.{bit_at_set_same}
use Rattle.ctrl_events.proofs.MarkLemmas.{or_left}
use Rattle.ctrl_events.proofs.marks.with_bit.Goals as goal

pub returns-then-is_set-clause-set : goal.returns-then-is_set-clause-set
returns-then-is_set-clause-set c = λ is. bit_at_set_same w64 c.args.bits c.args.bit c.requires

pub returns-then-is_set-clause-kept : goal.returns-then-is_set-clause-kept
returns-then-is_set-clause-kept c = λ b is. or_left c.args.bits _ b is
