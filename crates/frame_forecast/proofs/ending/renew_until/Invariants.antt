use Rattle.std.proofs.Common.{◌≡◌, ◌≤◌, ◌+◌, drop, length}
use Rattle.std.specs.List.{sum_by}
use Rattle.ctrl_clusters.specs.Rows.{AreControlsOf}
use Rattle.frame_forecast.specs.Renewal.{AreRenewingSame}
use Rattle.frame_forecast.specs.Sparse.{touched_among}
use Rattle.frame_forecast.proofs.ending.renew_until.Given as goal

-- the frames so far are renewed
abbrev pub invariant-loop-place : goal.invariant-loop-place
invariant-loop-place g l =
    AreRenewingSame g.D.Validates.verdict l.at.plan.now l.clusters l.at.ranges.now l.at.grabs.now l.at.values.now l.initial.frames.items l.frames.items l.from l.place l.spare.items
    × (length l.values.items ≡ length l.at.plan.now.controls) × AreControlsOf l.at.plan.now l.ranges × (length l.spare.items ≡ length l.at.plan.now.controls)
    × (l.initial.work.asked ≤ l.work.asked) × (l.work.told ≡ l.initial.work.told) × (length l.frames.items ≡ length l.initial.frames.items)
    × (l.work.asked + sum_by (λ f. touched_among l.at.plan.now f.asked l.clusters) (drop l.place l.initial.frames.items) ≤ l.initial.work.asked + sum_by (λ f. touched_among l.at.plan.now f.asked l.clusters) (drop l.from l.initial.frames.items))
