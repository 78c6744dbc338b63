use Rattle.std.proofs.Common.{◌≡◌, length}
use Rattle.ctrl_clusters.specs.Rows.{AreControlsOf}
use Rattle.frame_forecast.specs.Sparse.{values_upto}
use Rattle.frame_forecast.proofs.LoadLemmas.{AreLoaded}
use Rattle.frame_forecast.proofs.loading.load_members.Given as goal

-- the members so far are loaded
abbrev pub invariant-loop-member : goal.invariant-loop-member
invariant-loop-member g l =
    AreLoaded l.at.plan.now.followers l.at.ranges.now (values_upto l.at.values.now l.frames l.place) l.values.items l.ranges l.members l.member-index
    × (length l.values.items ≡ length l.at.plan.now.controls) × AreControlsOf l.at.plan.now l.ranges
