use Rattle.std.proofs.Common.{◌≡◌, drop}
use Rattle.frame_reasons.specs.Refused.{first_grabbed, grabs_in}
use Rattle.frame_reasons.proofs.refused.first_grabbed.Given as goal

-- the answer stands among the members that are left
abbrev pub invariant-loop-member : goal.invariant-loop-member
invariant-loop-member g l =
    let grabs = grabs_in l.device in
    first_grabbed grabs l.pairs l.members ≡ first_grabbed grabs l.pairs (drop l.member-index l.members)
