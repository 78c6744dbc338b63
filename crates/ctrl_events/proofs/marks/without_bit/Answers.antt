use Rattle.std.proofs.Common.{w64}
use Rattle.std.proofs.lemmas.Nat.Bits.{bit_at_clear_same, bit_at_clear_other}
use Rattle.ctrl_events.proofs.MarkLemmas.{fewer_left}
use Rattle.ctrl_events.proofs.marks.without_bit.Goals as goal

pub returns-clause-less : goal.returns-clause-less
returns-clause-less c = fewer_left c.args.bits c.args.bit c.requires.within c.requires.set

pub returns-clause-cleared : goal.returns-clause-cleared
returns-clause-cleared c = bit_at_clear_same w64 c.args.bits c.args.bit c.requires.within

pub returns-clause-kept : goal.returns-clause-kept
returns-clause-kept c = λ b low apart. bit_at_clear_other w64 c.args.bits c.args.bit c.requires.within b low apart
