use Rattle.std.proofs.Common.{w64}
use Rattle.std.proofs.Math.Facts.{to_z-of_z}
use Rattle.sample_device.proofs.PlanLemmas.{plain_made}
use Rattle.sample_device.proofs.plan.plain.Goals as goal

pub returns : goal.returns
returns c =
    let low = to_z-of_z {w = w64} {z = c.args.minimum} c.ranges.minimum in
    let high = to_z-of_z {w = w64} {z = c.args.maximum} c.ranges.maximum in
    let start = to_z-of_z {w = w64} {z = c.args.default_value} c.ranges.default_value in
    plain_made _ _ _ _ _ _ _ _ c.empty.result c.new.result (c.empty.ensures tt) c.requires
    (simp (low, high, start) at c.new.ensures.ok) (simp (low, high, start) at c.new.ensures.value)
