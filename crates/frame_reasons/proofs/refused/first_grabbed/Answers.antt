use Rattle.std.proofs.Common.{rules}
use Rattle.frame_reasons.specs.Refused.{grabs_in}
use Rattle.frame_reasons.proofs.Refusals.{grabbed_here}
use Rattle.frame_reasons.proofs.refused.first_grabbed.Goals as goal

-- written out so that a wrong body is refused soon (docs/GATE.md)
pub returns-then-is_grabbed : goal.returns-then-is_grabbed
returns-then-is_grabbed g c =
    grabbed_here (grabs_in c.args.device.now) c.args.pairs.now c.args.members.now c.loop-member.member-index (search rules) c.if-is_among.ensures c.if-is_grabbed.ensures c.loop-member.invariant
