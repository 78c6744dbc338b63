use Rattle.std.proofs.Common.{◌∙◌, ◌<◌, ◌≤◌, ◌+◌, drop, length, arith}
use Rattle.std.specs.List.{sum_by}
use Rattle.frame_forecast.specs.Renewal.{AreRenewing}
use Rattle.frame_forecast.specs.Sparse.{touched_among}
use Rattle.frame_forecast.proofs.RenewalLemmas.{renewing_asked, renewing_kept, renewing_last, renewing_many, renewing_next}
use Rattle.frame_forecast.proofs.renewal.renew_frames.Goals as goal

pub renew_where-requires-clause-naming : goal.renew_where-requires-clause-naming
renew_where-requires-clause-naming g c =
    let there : c.loop-place.place < length c.args.frames.now.items = omega (arith, c.loop-place-test.true, c.len-place-end.ensures) in
    (renewing_kept g.D.Validates.verdict c.args.at.now.plan.now c.args.clusters.now c.args.at.now.ranges.now c.args.at.now.grabs.now c.args.at.now.values.now c.args.frames.now.items c.loop-place.frames.items c.args.from c.loop-place.place
    there c.loop-place.invariant.0).1

pub loop-place-preserved : goal.loop-place-preserved
loop-place-preserved g c =
    let there : c.loop-place.place < length c.args.frames.now.items = omega (arith, c.loop-place-test.true, c.len-place-end.ensures) in
    let next : AreRenewing g.D.Validates.verdict c.args.at.now.plan.now c.args.clusters.now c.args.at.now.ranges.now c.args.at.now.grabs.now c.args.at.now.values.now c.args.frames.now.items c.renew_where.new.frames.items c.args.from (c.loop-place.place + 1) =
    renewing_next g.D.Validates.verdict c.args.at.now.plan.now c.args.clusters.now c.args.at.now.ranges.now c.args.at.now.grabs.now c.args.at.now.values.now c.args.frames.now.items c.loop-place.frames.items c.renew_where.new.frames.items c.args.from
    c.loop-place.place (c.loop-place.place + 1) (omega (arith, c.loop-place.auto.place)) there (omega arith) c.renew_where.ensures.frames c.loop-place.invariant.0 in (
      next,
      c.renew_where.ensures.values,
      c.renew_where.ensures.ranges,
      omega (arith, c.loop-place.invariant.3, c.renew_where.ensures.grows),
      c.renew_where.ensures.told ∙ c.loop-place.invariant.4,
      renewing_many g.D.Validates.verdict c.args.at.now.plan.now c.args.clusters.now c.args.at.now.ranges.now c.args.at.now.grabs.now c.args.at.now.values.now c.args.frames.now.items c.renew_where.new.frames.items c.args.from (c.loop-place.place + 1) next,
      renewing_asked g.D.Validates.verdict c.args.at.now.plan.now c.args.clusters.now c.args.at.now.ranges.now c.args.at.now.grabs.now c.args.at.now.values.now c.args.frames.now.items c.loop-place.frames.items c.args.from c.loop-place.place
          (c.args.work.now.asked + sum_by (λ f. touched_among c.args.at.now.plan.now f.asked c.args.clusters.now) (drop c.args.from c.args.frames.now.items)) c.loop-place.work.asked c.renew_where.new.work.asked there c.loop-place.invariant.0
          c.loop-place.invariant.6 c.renew_where.ensures.asked,
    )

pub returns-clause-frames : goal.returns-clause-frames
returns-clause-frames g c =
    let all : length c.args.frames.now.items ≤ c.loop-place.place = omega (arith, c.loop-place-test.false, c.len-place-end.ensures) in
    renewing_last g.D.Validates.verdict c.args.at.now.plan.now c.args.clusters.now c.args.at.now.ranges.now c.args.at.now.grabs.now c.args.at.now.values.now c.args.frames.now.items c.loop-place.frames.items c.args.from c.loop-place.place all
    c.loop-place.invariant.0

pub returns-clause-asked : goal.returns-clause-asked
returns-clause-asked g c = omega (arith, c.loop-place.invariant.6)
