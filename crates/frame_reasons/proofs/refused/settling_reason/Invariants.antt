use Rattle.std.proofs.Common.{◌≡◌, drop, take, length}
use Rattle.frame_reasons.specs.Refused.{ranges_in, taken_row}
use Rattle.frame_reasons.proofs.Refusals.{before}
use Rattle.frame_reasons.proofs.refused.settling_reason.Given as goal

-- what the members so far take, and what the others do
abbrev pub invariant-loop-place : goal.invariant-loop-place
invariant-loop-place g l = record {
  rest : before (take l.place l.row) (taken_row (ranges_in l.device) l.values l.pairs (drop l.place l.members))
      ≡ taken_row (ranges_in l.device) l.values l.pairs l.members;
  long : length l.row ≡ length l.members;
}
