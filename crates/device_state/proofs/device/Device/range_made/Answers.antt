use Rattle.std.proofs.Common.{◌<◌, length, w64, Some, refl, ap, sym, ◌∙◌, arith}
use Rattle.std.proofs.lemmas.Bool.Decides.{nat_tests}
use Rattle.std.proofs.Math.Facts.{to_z-of_z}
use Rattle.history.specs.Past.{past}
use Rattle.ctrl_types.specs.declared.check.Check.{Check}
use Rattle.device_state.specs.Device.{DeviceData}
use Rattle.device_state.proofs.RangingLemmas.{range_faulty, range_sound}
use Rattle.device_state.proofs.device.Device.range_made.Goals as goal

-- the first fault refuses the range
pub returns-in-Err-clause-check : goal.returns-in-Err-clause-check
returns-in-Err-clause-check g c =
    let d = c.args.self.now in
    let low = to_z-of_z {w = w64} {z = c.args.min} c.ranges.min in
    let high = to_z-of_z {w = w64} {z = c.args.max} c.ranges.max in
    let value = to_z-of_z {w = w64} {z = c.args.default_value} c.ranges.default_value in
    let known : c.args.control < length d.plan.controls =
    grind (arith, nat_tests, c.control_count.ensures.count, c.if-control-control_count.false, ap (λ (x : DeviceData). length x.plan.controls) c.self.view_is) in
    ap (λ (check : Check). Some check) c.range_check.ensures
    ∙ sym (range_faulty d.plan (past d.steps) c.args.control c.args.min c.args.max c.args.step c.args.default_value c.in-Err.fault known (rw (c.range-ctrl.ensures, low, high, value) at c.in-Err.ensures.fault))

-- one with which nothing is wrong isn't refused
pub returns-in-Ok-clause-check : goal.returns-in-Ok-clause-check
returns-in-Ok-clause-check g c =
    let d = c.args.self.now in
    let low = to_z-of_z {w = w64} {z = c.args.min} c.ranges.min in
    let high = to_z-of_z {w = w64} {z = c.args.max} c.ranges.max in
    let value = to_z-of_z {w = w64} {z = c.args.default_value} c.ranges.default_value in
    let known : c.args.control < length d.plan.controls =
    grind (arith, nat_tests, c.control_count.ensures.count, c.if-control-control_count.false, ap (λ (x : DeviceData). length x.plan.controls) c.self.view_is) in
    sym (range_sound d.plan (past d.steps) c.args.control c.args.min c.args.max c.args.step c.args.default_value known (rw (c.range-ctrl.ensures, low, high, value) at (c.in-Ok.ensures.ok.0 refl)))
