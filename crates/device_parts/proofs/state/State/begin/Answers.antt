use Rattle.std.proofs.Common.{◌≡◌, length, refl, ap, sym, subst, ◌∙◌}
use Rattle.ctrl_clusters.specs.ControlsData.{DifferIn}
use Rattle.ctrl_clusters.specs.Rows.{Values}
use Rattle.ctrl_clusters.proofs.OverlayLemmas.{length_overlay}
use Rattle.ctrl_clusters.specs.Overlay.{refused_clusters}
use Rattle.req_book.specs.Requests.{find}
use Rattle.device_parts.specs.QueuedFrames.{pairs_in}
use Rattle.device_history.specs.Laid.{laid, applied_over}
use Rattle.device_parts.specs.Makes.{Cover}
use Rattle.device_parts.proofs.CoverLemmas.{laid_apart, begin_within, within_same}
use Rattle.device_parts.proofs.MakesLemmas.{makes_begin}
use Rattle.device_parts.proofs.state.State.begin.Goals as goal

-- there is a value for each control
pub to_values-change-requires-clause-values : goal.to_values-change-requires-clause-values
to_values-change-requires-clause-values g c =
    let s = c.self.inside in
    ap length (c.as_slice.ensures.value ∙ (rw (← c.self.view_is) at c.requires.laid)) ∙ length_overlay g.D.Validates.verdict c.args.plan.now s.controls.ranges s.controls.values s.controls.grabs (pairs_in (find c.self.inside.frames.requests.all c.args.request.0))
    ∙ (rw (← c.self.view_is) at c.requires.ready).valued

-- nothing differs outside of the clusters
pub raise_touched-requires-clause-within : goal.raise_touched-requires-clause-within
raise_touched-requires-clause-within g c =
    let s = c.self.inside in
    let cover : Cover c.args.plan.now c.args.clusters.now (pairs_in (find c.self.inside.frames.requests.all c.args.request.0)) = rw (← c.self.view_is) at c.requires.cover in
    let given : c.args.given.now ≡ applied_over g.D.Validates.verdict c.args.plan.now s.controls (pairs_in (find c.self.inside.frames.requests.all c.args.request.0)) = rw (← c.self.view_is) at c.requires.applied in
    rw given
    (within_same _ c.args.plan.now _ c.args.clusters.now _ s.controls _ (record s.controls { values = laid g.D.Validates.verdict c.args.plan.now s.controls (pairs_in (find c.self.inside.frames.requests.all c.args.request.0)) }) _ (applied_over g.D.Validates.verdict c.args.plan.now s.controls (pairs_in (find c.self.inside.frames.requests.all c.args.request.0)))
    c.to_values-change.ensures.plan refl c.to_values-change.ensures.before
    (c.to_values-change.ensures.after ∙ ap (λ (v : Values). record s.controls { values = v }) (c.as_slice.ensures.value ∙ (rw (← c.self.view_is) at c.requires.laid))) refl
    (begin_within g.D.Validates.verdict c.args.plan.now s.controls c.args.clusters.now (refused_clusters g.D.Validates.verdict c.args.plan.now s.controls.ranges s.controls.values s.controls.grabs (pairs_in (find c.self.inside.frames.requests.all c.args.request.0))) (pairs_in (find c.self.inside.frames.requests.all c.args.request.0)) cover))

pub replace_within-requires-clause-within : goal.replace_within-requires-clause-within
replace_within-requires-clause-within g c =
    let s = c.self.inside in
    let cover : Cover c.args.plan.now c.args.clusters.now (pairs_in (find c.self.inside.frames.requests.all c.args.request.0)) = rw (← c.self.view_is) at c.requires.cover in
    subst (DifferIn c.args.plan.now c.args.clusters.now s.controls.values) (sym (rw (← c.self.view_is) at c.requires.laid)) (laid_apart g.D.Validates.verdict c.args.plan.now s.controls c.args.clusters.now (pairs_in (find c.self.inside.frames.requests.all c.args.request.0)) cover)

-- the values are those after the begin, its frame is being made, and those are told for whom something changed
pub returns-clause-makes : goal.returns-clause-makes
returns-clause-makes g c =
    let s = c.self.inside in
    let values : c.args.values.items ≡ laid g.D.Validates.verdict c.args.plan.now s.controls (pairs_in (find c.self.inside.frames.requests.all c.args.request.0)) = rw (← c.self.view_is) at c.requires.laid in
    rw (← c.self.view_is)
    (λ number.
    makes_begin g.D.Validates.verdict c.args.plan.now c.to_values-change.result.before.plan.now number c.args.request c.args.given.now _ _ _ _ (rw (← c.self.view_is) at c.requires.applied) refl
    (c.replace_within.ensures ∙ ap (λ (v : Values). record s.controls { values = v }) values) c.begin-number.ensures.frames c.to_values-change.ensures.plan c.to_values-change.ensures.before
    (c.to_values-change.ensures.after ∙ ap (λ (v : Values). record s.controls { values = v }) c.as_slice.ensures.value ∙ sym c.replace_within.ensures) c.raise_touched.ensures)
