use Rattle.std.proofs.Common.{◌∙◌, ◌<◌, ◌≤◌, ◌+◌, drop, length, arith}
use Rattle.std.specs.List.{sum_by}
use Rattle.frame_forecast.specs.Renewal.{AreRenewingSame}
use Rattle.frame_forecast.specs.Sparse.{touched_among}
use Rattle.frame_forecast.proofs.EndingLemmas.{same_asked, same_end, same_kept, same_last, same_many, same_next}
use Rattle.frame_forecast.proofs.ending.renew_until.Goals as goal

pub renew_step-requires-clause-naming : goal.renew_step-requires-clause-naming
renew_step-requires-clause-naming g c =
    let there : c.loop-place.place < length c.args.frames.now.items = omega (arith, c.loop-place-test.true, c.len-place-end.ensures) in
    same_kept g.D.Validates.verdict c.args.at.now.plan.now c.args.clusters.now c.args.at.now.ranges.now c.args.at.now.grabs.now c.args.at.now.values.now c.args.frames.now.items c.loop-place.frames.items c.args.from c.loop-place.place c.loop-place.spare.items there c.loop-place.invariant.0

pub returns-then-renew_step-clause-frames : goal.returns-then-renew_step-clause-frames
returns-then-renew_step-clause-frames g c =
    let there : c.loop-place.place < length c.args.frames.now.items = omega (arith, c.loop-place-test.true, c.len-place-end.ensures) in
    let next : AreRenewingSame g.D.Validates.verdict c.args.at.now.plan.now c.args.clusters.now c.args.at.now.ranges.now c.args.at.now.grabs.now c.args.at.now.values.now c.args.frames.now.items c.renew_step.new.frames.items c.args.from (c.loop-place.place + 1) c.renew_step.new.spare.items =
    same_next g.D.Validates.verdict c.args.at.now.plan.now c.args.clusters.now c.args.at.now.ranges.now c.args.at.now.grabs.now c.args.at.now.values.now c.args.frames.now.items c.loop-place.frames.items c.renew_step.new.frames.items c.args.from c.loop-place.place (c.loop-place.place + 1) c.loop-place.spare.items c.renew_step.new.spare.items (omega (arith, c.loop-place.auto.place)) there (omega arith)
    c.loop-place.invariant.3 c.renew_step.ensures.frames c.renew_step.ensures.spared c.loop-place.invariant.0 in
    same_end g.D.Validates.verdict c.args.at.now.plan.now c.args.clusters.now c.args.at.now.ranges.now c.args.at.now.grabs.now c.args.at.now.values.now c.args.frames.now.items c.renew_step.new.frames.items c.args.from (c.loop-place.place + 1) c.renew_step.new.spare.items (omega (arith, c.loop-place.auto.place)) (c.renew_step.ensures.ended c.if-renew_step.true) next

pub returns-then-renew_step-clause-asked : goal.returns-then-renew_step-clause-asked
returns-then-renew_step-clause-asked g c =
    let there : c.loop-place.place < length c.args.frames.now.items = omega (arith, c.loop-place-test.true, c.len-place-end.ensures) in
    let most : c.renew_step.new.work.asked + sum_by (λ f. touched_among c.args.at.now.plan.now f.asked c.args.clusters.now) (drop (c.loop-place.place + 1) c.args.frames.now.items) ≤ c.args.work.now.asked + sum_by (λ f. touched_among c.args.at.now.plan.now f.asked c.args.clusters.now) (drop c.args.from c.args.frames.now.items) =
    same_asked g.D.Validates.verdict c.args.at.now.plan.now c.args.clusters.now c.args.at.now.ranges.now c.args.at.now.grabs.now c.args.at.now.values.now c.args.frames.now.items c.loop-place.frames.items c.args.from c.loop-place.place (c.args.work.now.asked + sum_by (λ f. touched_among c.args.at.now.plan.now f.asked c.args.clusters.now) (drop c.args.from c.args.frames.now.items)) c.loop-place.work.asked c.renew_step.new.work.asked c.loop-place.spare.items there
    c.loop-place.invariant.0 c.loop-place.invariant.7 c.renew_step.ensures.asked in
    omega (arith, most)

pub loop-place-preserved : goal.loop-place-preserved
loop-place-preserved g c =
    let there : c.loop-place.place < length c.args.frames.now.items = omega (arith, c.loop-place-test.true, c.len-place-end.ensures) in
    let next : AreRenewingSame g.D.Validates.verdict c.args.at.now.plan.now c.args.clusters.now c.args.at.now.ranges.now c.args.at.now.grabs.now c.args.at.now.values.now c.args.frames.now.items c.renew_step.new.frames.items c.args.from (c.loop-place.place + 1) c.renew_step.new.spare.items =
    same_next g.D.Validates.verdict c.args.at.now.plan.now c.args.clusters.now c.args.at.now.ranges.now c.args.at.now.grabs.now c.args.at.now.values.now c.args.frames.now.items c.loop-place.frames.items c.renew_step.new.frames.items c.args.from c.loop-place.place (c.loop-place.place + 1) c.loop-place.spare.items c.renew_step.new.spare.items (omega (arith, c.loop-place.auto.place)) there (omega arith)
    c.loop-place.invariant.3 c.renew_step.ensures.frames c.renew_step.ensures.spared c.loop-place.invariant.0 in (
      next,
      c.renew_step.ensures.values,
      c.renew_step.ensures.ranges,
      c.renew_step.ensures.spare,
      omega (arith, c.loop-place.invariant.4, c.renew_step.ensures.grows),
      c.renew_step.ensures.told ∙ c.loop-place.invariant.5,
      same_many g.D.Validates.verdict c.args.at.now.plan.now c.args.clusters.now c.args.at.now.ranges.now c.args.at.now.grabs.now c.args.at.now.values.now c.args.frames.now.items c.renew_step.new.frames.items c.args.from (c.loop-place.place + 1) c.renew_step.new.spare.items next,
      same_asked g.D.Validates.verdict c.args.at.now.plan.now c.args.clusters.now c.args.at.now.ranges.now c.args.at.now.grabs.now c.args.at.now.values.now c.args.frames.now.items c.loop-place.frames.items c.args.from c.loop-place.place (c.args.work.now.asked + sum_by (λ f. touched_among c.args.at.now.plan.now f.asked c.args.clusters.now) (drop c.args.from c.args.frames.now.items)) c.loop-place.work.asked c.renew_step.new.work.asked c.loop-place.spare.items there
          c.loop-place.invariant.0 c.loop-place.invariant.7 c.renew_step.ensures.asked,
    )

pub returns-clause-frames : goal.returns-clause-frames
returns-clause-frames g c =
    let all : length c.args.frames.now.items ≤ c.loop-place.place = omega (arith, c.loop-place-test.false, c.len-place-end.ensures) in
    same_last g.D.Validates.verdict c.args.at.now.plan.now c.args.clusters.now c.args.at.now.ranges.now c.args.at.now.grabs.now c.args.at.now.values.now c.args.frames.now.items c.loop-place.frames.items c.args.from c.loop-place.place c.loop-place.spare.items all c.loop-place.invariant.0
