use Rattle.frame_forecast.proofs.SettlingLemmas.{IsSettling}
use Rattle.frame_forecast.proofs.renewal.follow_members.Given as goal

-- the members so far are settled
abbrev pub invariant-loop-member : goal.invariant-loop-member
invariant-loop-member g l = IsSettling l.at.plan.now l.at.ranges.now l.at.values.now l.initial.frames.items l.frames.items l.place l.members l.member-index
