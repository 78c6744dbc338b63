use Rattle.std.proofs.Common.{w64, ℕ, List, take, refl, ap, sym, ◌∙◌}
use Rattle.std.proofs.Math.Facts.{to_z-of_z}
use Rattle.history.specs.declared.entry.Entry.{Entry}
use Rattle.history.specs.Past.{past}
use Rattle.ctrl_settle.specs.Control.{Control, with_range}
use Rattle.ctrl_handlers.specs.Plan.{control_in}
use Rattle.device_history.specs.declared.ask.Step.{Step}
use Rattle.device_history.specs.declared.ask.Step.TheVariants as steps
use Rattle.device_history.proofs.ControlsLemmas.{ranges_of}
use Rattle.history_audit.proofs.FollowLemmas.{given_own, range_beyond, range_follows, range_full, range_refused}
use Rattle.history_audit.proofs.MadeLemmas.{behind_next, replay_makes, replay_ready, replayed_false, replayed_true}
use Rattle.history_audit.proofs.replay.Replay.modify.Goals as goal

-- no further step is kept
pub returns-then-is_full : goal.returns-then-is_full
returns-then-is_full g c =
    replayed_false g.D.Validates.verdict c.args.self.now c.args.self.now (steps.ModifyRange c.args.control c.args.min c.args.max c.args.apart c.args.default_value) c.requires
    (range_full g.D.Validates.verdict c.args.self.now.plan (past c.args.self.now.steps) c.args.control c.args.min c.args.max c.args.apart c.args.default_value (sym c.is_full.ensures.full ∙ c.if-is_full.true)) refl

-- no such control is there
pub returns-in_default : goal.returns-in_default
returns-in_default g c =
    replayed_false g.D.Validates.verdict c.args.self.now c.args.self.now (steps.ModifyRange c.args.control c.args.min c.args.max c.args.apart c.args.default_value) c.requires
    (range_beyond g.D.Validates.verdict c.args.self.now.plan (past c.args.self.now.steps) c.args.control c.args.min c.args.max c.args.apart c.args.default_value c.in_default.ensures) refl

-- it doesn't take the range
pub returns-in_default-with_range : goal.returns-in_default-with_range
returns-in_default-with_range g c =
    replayed_false g.D.Validates.verdict c.args.self.now c.args.self.now (steps.ModifyRange c.args.control c.args.min c.args.max c.args.apart c.args.default_value) c.requires
    (range_refused g.D.Validates.verdict c.args.self.now.plan (past c.args.self.now.steps) c.args.control c.args.min c.args.max c.args.apart c.args.default_value _ c.in_default-with_range.field-0
    (given_own c.in-Some.ctrl.now _ c.args.min _ c.args.max _ c.args.apart c.args.default_value _ (to_z-of_z {w = w64} {z = c.args.min} c.ranges.min) (to_z-of_z {w = w64} {z = c.args.max} c.ranges.max) (to_z-of_z {w = w64} {z = c.args.default_value} c.ranges.default_value) c.in-Some.ensures.1)
    c.in_default-with_range.ensures.ok.1) refl

-- the state is ready for a step
pub modify_range-requires-clause-ready : goal.modify_range-requires-clause-ready
modify_range-requires-clause-ready g c = replay_ready g.D.Validates.verdict c.self.inside.plan.now c.self.inside.steps.now c.self.inside.count _ c.self.invariant

-- it has this range now
pub invariant_of-self : goal.invariant_of-self
invariant_of-self g c =
    let r = c.self.inside in
    let P : List (Entry Step) = past (take r.count r.steps.now) in
    let n : ℕ = c.args.control in
    let there = rw (← c.self.view_is) at c.in-Some.ensures in
    let given =
    given_own c.in-Some.ctrl.now _ c.args.min _ c.args.max _ c.args.apart c.args.default_value _ (to_z-of_z {w = w64} {z = c.args.min} c.ranges.min) (to_z-of_z {w = w64} {z = c.args.max} c.ranges.max) (to_z-of_z {w = w64} {z = c.args.default_value} c.ranges.default_value) there.1 in
    replay_makes g.D.Validates.verdict r.plan.now r.steps.now r.count r.state _ (steps.ModifyRange n c.args.min c.args.max c.args.apart c.args.default_value) c.self.invariant
    (rw (← c.self.view_is) at c.requires) (rw (← c.self.view_is) at (sym c.is_full.ensures.full ∙ c.if-is_full.false))
    (range_follows g.D.Validates.verdict r.plan.now P n c.args.min c.args.max c.args.apart c.args.default_value _ (rw (← c.self.view_is) at (sym c.is_full.ensures.full ∙ c.if-is_full.false)) there.0 given (c.in-Ok.ensures.ok.0 refl))
    (c.modify_range.ensures.makes r.count c.args.min c.args.max c.args.apart c.args.default_value
    (c.in-Ok.ensures.value ∙ given ∙ ap (λ (l : List Control). with_range (control_in l n) c.args.min c.args.max c.args.apart c.args.default_value) (sym (ranges_of c.self.invariant.made.controls))))

-- one more step was replayed
pub returns : goal.returns
returns g c =
    let given =
    given_own c.in-Some.ctrl.now _ c.args.min _ c.args.max _ c.args.apart c.args.default_value _ (to_z-of_z {w = w64} {z = c.args.min} c.ranges.min) (to_z-of_z {w = w64} {z = c.args.max} c.ranges.max) (to_z-of_z {w = w64} {z = c.args.default_value} c.ranges.default_value) c.in-Some.ensures.1 in
    replayed_true g.D.Validates.verdict c.args.self.now _ (steps.ModifyRange c.args.control c.args.min c.args.max c.args.apart c.args.default_value) c.requires
    (range_follows g.D.Validates.verdict c.args.self.now.plan (past c.args.self.now.steps) c.args.control c.args.min c.args.max c.args.apart c.args.default_value _ (sym c.is_full.ensures.full ∙ c.if-is_full.false) c.in-Some.ensures.0 given (c.in-Ok.ensures.ok.0 refl))
    (rw (← c.self.view_is) (behind_next c.self.inside.plan.now c.self.inside.steps.now c.self.inside.count c.self.invariant.within))
