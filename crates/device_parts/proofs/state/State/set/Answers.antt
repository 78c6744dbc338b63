use Rattle.std.proofs.Common.{◌≡◌, length, refl, ap, sym, subst, ◌∙◌}
use Rattle.ctrl_clusters.specs.ControlsData.{DifferIn}
use Rattle.ctrl_clusters.specs.Rows.{Values}
use Rattle.ctrl_clusters.proofs.OverlayLemmas.{length_overlay}
use Rattle.device_history.specs.Laid.{laid}
use Rattle.device_parts.proofs.CoverLemmas.{laid_apart, set_within, within_same}
use Rattle.device_parts.proofs.MakesLemmas.{makes_set}
use Rattle.device_parts.proofs.state.State.set.Goals as goal

-- there is a value for each control
pub to_values-change-requires-clause-values : goal.to_values-change-requires-clause-values
to_values-change-requires-clause-values g c =
    let s = c.self.inside in
    ap length (c.as_slice.ensures.value ∙ (rw (← c.self.view_is) at c.requires.laid)) ∙ length_overlay g.D.Validates.verdict c.args.plan.now s.controls.ranges s.controls.values s.controls.grabs c.args.pairs.now
    ∙ (rw (← c.self.view_is) at c.requires.ready).valued

-- nothing differs outside of the clusters
pub raise_touched-requires-clause-within : goal.raise_touched-requires-clause-within
raise_touched-requires-clause-within g c =
    let s = c.self.inside in
    within_same _ c.args.plan.now _ c.args.clusters.now _ s.controls _ (record s.controls { values = laid g.D.Validates.verdict c.args.plan.now s.controls c.args.pairs.now }) _ c.args.pairs.now c.to_values-change.ensures.plan refl c.to_values-change.ensures.before
    (c.to_values-change.ensures.after ∙ ap (λ (v : Values). record s.controls { values = v }) (c.as_slice.ensures.value ∙ (rw (← c.self.view_is) at c.requires.laid))) refl
    (set_within g.D.Validates.verdict c.args.plan.now s.controls c.args.clusters.now c.args.pairs.now c.requires.cover)

pub replace_within-requires-clause-within : goal.replace_within-requires-clause-within
replace_within-requires-clause-within g c =
    let s = c.self.inside in
    subst (DifferIn c.args.plan.now c.args.clusters.now s.controls.values) (sym (rw (← c.self.view_is) at c.requires.laid)) (laid_apart g.D.Validates.verdict c.args.plan.now s.controls c.args.clusters.now c.args.pairs.now c.requires.cover)

-- the values are what the pairs make of them, and those are told for whom something changed
pub returns-clause-makes : goal.returns-clause-makes
returns-clause-makes g c =
    let s = c.self.inside in
    let values : c.args.values.items ≡ laid g.D.Validates.verdict c.args.plan.now s.controls c.args.pairs.now = rw (← c.self.view_is) at c.requires.laid in
    rw (← c.self.view_is)
    (λ number.
    makes_set g.D.Validates.verdict c.args.plan.now c.to_values-change.result.before.plan.now number c.args.fh c.args.pairs.now _ _ _ _ refl (c.replace_within.ensures ∙ ap (λ (v : Values). record s.controls { values = v }) values) refl
    c.to_values-change.ensures.plan c.to_values-change.ensures.before (c.to_values-change.ensures.after ∙ ap (λ (v : Values). record s.controls { values = v }) c.as_slice.ensures.value ∙ sym c.replace_within.ensures) c.raise_touched.ensures)
