use Rattle.std.proofs.Common.{List, length, take, ap, sym, subst, ◌∙◌}
use Rattle.history.specs.Past.{past}
use Rattle.ctrl_types.specs.declared.ids.Pair.{Pair}
use Rattle.device_history.specs.declared.ask.Step.TheVariants as steps
use Rattle.device_history.proofs.PresentLemmas.{length_now}
use Rattle.device_history.proofs.ControlsLemmas.{values_of}
use Rattle.device_parts.specs.Makes.{Makes}
use Rattle.device_parts.specs.State.{IsReady, StateData}
use Rattle.history_audit.proofs.MadeLemmas.{behind_next, replay_makes, replay_ready}
use Rattle.history_audit.proofs.WriteLemmas.{set_cover, set_makes, set_rows}
use Rattle.ctrl_clusters.specs.ControlsData.{ControlsData}
use Rattle.device_history.specs.Laid.{laid}
use Rattle.history_audit.proofs.replay.Replay.write.Goals as goal

-- there is a value for each control
pub write_rows-requires-clause-values : goal.write_rows-requires-clause-values
write_rows-requires-clause-values g c =
    let r = c.self.inside in
    ap length c.in_ok-values.ensures.room ∙ ap length (values_of c.self.invariant.made.controls) ∙ length_now g.D.Validates.verdict r.plan.now (past (take r.count r.steps.now))

-- the rows are of other clusters each
pub write_rows-requires-clause-rows : goal.write_rows-requires-clause-rows
write_rows-requires-clause-rows g c =
    let r = c.self.inside in
    rw c.rows.ensures (set_rows g.D.Validates.verdict r.plan.now (past (take r.count r.steps.now)) c.args.fh c.args.touch.now.pairs c.args.touch.now (rw (← c.self.view_is) at c.requires.touched))

-- the state is ready for a step
pub set-requires-clause-ready : goal.set-requires-clause-ready
set-requires-clause-ready g c =
    subst (λ (s : StateData). IsReady c.self.inside.plan.now s) (sym c.in_ok-values.ensures.same) (replay_ready g.D.Validates.verdict c.self.inside.plan.now c.self.inside.steps.now c.self.inside.count _ c.self.invariant)

-- the clusters of the rows cover the pairs
pub set-requires-clause-cover : goal.set-requires-clause-cover
set-requires-clause-cover g c =
    let r = c.self.inside in
    rw (c.clusters.ensures, c.pairs.ensures)
    (set_cover g.D.Validates.verdict r.plan.now (past (take r.count r.steps.now)) c.args.fh c.args.touch.now.pairs c.args.touch.now c.self.invariant.made.plans (rw (← c.self.view_is) at c.requires.touched))

-- the values are what the set lays over those before it
pub set-requires-clause-laid : goal.set-requires-clause-laid
set-requires-clause-laid g c =
    let r = c.self.inside in
    let made = c.self.invariant.made in
    rw (c.in_ok-values.ensures.same, c.pairs.ensures)
    (set_makes g.D.Validates.verdict r.plan.now (past (take r.count r.steps.now)) c.args.fh c.args.touch.now.pairs c.args.touch.now c.rows.result.now c.in_ok-values.values.items _ made.plans (rw (← c.self.view_is) at c.requires.touched) c.rows.ensures
    (c.in_ok-values.ensures.room ∙ (values_of made.controls)) c.write_rows.ensures
    ∙ sym (ap (λ (d : ControlsData). laid g.D.Validates.verdict r.plan.now d c.args.touch.now.pairs) made.controls))

-- the state is what the set makes of it
pub invariant_of-self-2 : goal.invariant_of-self-2
invariant_of-self-2 g c =
    let r = c.self.inside in
    replay_makes g.D.Validates.verdict r.plan.now r.steps.now r.count r.state _ (steps.Set c.args.fh c.args.touch.now.pairs) c.self.invariant (rw (← c.self.view_is) at c.requires.next) (rw (← c.self.view_is) at c.requires.room) (rw (← c.self.view_is) at c.requires.follows)
    (subst (λ (s : StateData). Makes g.D.Validates.verdict r.plan.now r.count (steps.Set c.args.fh c.args.touch.now.pairs) s c.set.new.self) c.in_ok-values.ensures.same
    (subst (λ (ps : List Pair). Makes g.D.Validates.verdict r.plan.now r.count (steps.Set c.args.fh ps) c.reserve_values.new.self c.set.new.self) c.pairs.ensures (c.set.ensures.makes r.count)))

-- one more step was replayed
pub returns-clause-ok : goal.returns-clause-ok
returns-clause-ok g c = rw (← c.self.view_is) (behind_next c.self.inside.plan.now c.self.inside.steps.now c.self.inside.count c.self.invariant.within)
