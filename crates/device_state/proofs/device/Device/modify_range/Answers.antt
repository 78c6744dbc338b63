use Rattle.std.proofs.Common.{w64, refl, inr, sym}
use Rattle.std.proofs.Math.Facts.{to_z-of_z}
use Rattle.history.specs.Past.{past}
use Rattle.device_history.specs.declared.ask.Ask.TheVariants as asks
use Rattle.device_state.proofs.HandleLemmas.{handles_refused, handles_unowned, handles_unstepped}
use Rattle.device_state.proofs.RangingLemmas.{handles_range, range_accepted, range_full, ranged}
use Rattle.device_state.proofs.device.Device.modify_range.Goals as goal

pub returns-in-Err-clause-handles : goal.returns-in-Err-clause-handles
returns-in-Err-clause-handles g c =
    let low = to_z-of_z {w = w64} {z = c.args.min} c.ranges.min in
    let high = to_z-of_z {w = w64} {z = c.args.max} c.ranges.max in
    let value = to_z-of_z {w = w64} {z = c.args.default_value} c.ranges.default_value in
    rw (← c.self.view_is, c.refused.ensures)
    (handles_unowned g.D.Validates.verdict _ _ _ c.args.seat (asks.ModifyRange c.args.control c.args.min c.args.max c.args.step c.args.default_value) _ c.in-Err.check _ refl c.new-self-inside.ensures refl (sym (rw (low, high, value) at c.in-Err.ensures.check)))

-- what was read can be accepted
pub accept_range-requires-clause-ranged : goal.accept_range-requires-clause-ranged
accept_range-requires-clause-ranged g c =
    let device = c.self.inside in
    let low = to_z-of_z {w = w64} {z = c.args.min} c.ranges.min in
    let high = to_z-of_z {w = w64} {z = c.args.max} c.ranges.max in
    let value = to_z-of_z {w = w64} {z = c.args.default_value} c.ranges.default_value in
    ranged device.plan (past device.steps.items) c.args.control c.args.min c.args.max c.args.step c.args.default_value c.in-Ok.changed (rw (low, high, value) at c.in-Ok.ensures.changed)
    (range_accepted device.plan (past device.steps.items) c.args.control c.args.min c.args.max c.args.step c.args.default_value (sym (rw (low, high, value) at c.in-Ok.ensures.check)) (sym c.in_default.ensures))

pub returns-in-Ok-accept_range-clause-handles : goal.returns-in-Ok-accept_range-clause-handles
returns-in-Ok-accept_range-clause-handles g c =
    let device = c.self.inside in
    let low = to_z-of_z {w = w64} {z = c.args.min} c.ranges.min in
    let high = to_z-of_z {w = w64} {z = c.args.max} c.ranges.max in
    let value = to_z-of_z {w = w64} {z = c.args.default_value} c.ranges.default_value in
    rw (← c.self.view_is)
    (handles_range g.D.Validates.verdict g.D.Notifies.told _ _ _ c.new-self-inside.result c.args.seat c.args.control c.args.min c.args.max c.args.step c.args.default_value c.in-Ok.changed refl c.new-self-inside.ensures
    (range_accepted device.plan (past device.steps.items) c.args.control c.args.min c.args.max c.args.step c.args.default_value (sym (rw (low, high, value) at c.in-Ok.ensures.check)) (sym c.in_default.ensures))
    (rw (low, high, value) at c.in-Ok.ensures.changed) c.in-Ok-accept_range.ensures.ok)

pub returns-in-Err-accept_range-clause-handles : goal.returns-in-Err-accept_range-clause-handles
returns-in-Err-accept_range-clause-handles g c =
    let device = c.self.inside in
    let low = to_z-of_z {w = w64} {z = c.args.min} c.ranges.min in
    let high = to_z-of_z {w = w64} {z = c.args.max} c.ranges.max in
    let value = to_z-of_z {w = w64} {z = c.args.default_value} c.ranges.default_value in
    rw (← c.self.view_is, c.refused-in-Err-accept_range.ensures)
    (handles_refused g.D.Validates.verdict _ _ _ c.args.seat _ _ c.in-Err-accept_range.ensures.err c.new-self-inside.ensures
    (inr (rw (range_accepted device.plan (past device.steps.items) c.args.control c.args.min c.args.max c.args.step c.args.default_value (sym (rw (low, high, value) at c.in-Ok.ensures.check)) (sym c.in_default.ensures)) refl, refl)))

-- no further step is kept
pub returns-in-Some-clause-handles : goal.returns-in-Some-clause-handles
returns-in-Some-clause-handles g c =
    let device = c.self.inside in
    let low = to_z-of_z {w = w64} {z = c.args.min} c.ranges.min in
    let high = to_z-of_z {w = w64} {z = c.args.max} c.ranges.max in
    let value = to_z-of_z {w = w64} {z = c.args.default_value} c.ranges.default_value in
    rw (← c.self.view_is, c.refused-in-Some.ensures)
    (handles_unstepped g.D.Validates.verdict _ _ _ c.args.seat (asks.ModifyRange c.args.control c.args.min c.args.max c.args.step c.args.default_value) _ c.in-Some.check _ refl c.new-self-inside.ensures refl
    (range_full device.plan (past device.steps.items) c.args.control c.args.min c.args.max c.args.step c.args.default_value c.in-Some.check (sym (rw (low, high, value) at c.in-Ok.ensures.check)) (sym c.in-Some.ensures)))
