use Rattle.std.proofs.Common.{◌≡◌, ◌∷◌, [], slice_set, refl, ap, sym, ◌∙◌}
use Rattle.ctrl_clusters.specs.Rows.{Grabs}
use Rattle.device_parts.proofs.CoverLemmas.{grab_within, within_same}
use Rattle.device_parts.proofs.MakesLemmas.{makes_grab}
use Rattle.device_parts.proofs.state.State.grab.Goals as goal

-- nothing differs outside of its cluster
pub raise_touched-requires-clause-within : goal.raise_touched-requires-clause-within
raise_touched-requires-clause-within g c =
    let s = c.self.inside in
    let grabs : c.as_slice.result.now ≡ slice_set s.controls.grabs c.args.control c.args.on =
    c.as_slice.ensures.value ∙ ap (λ (gs : Grabs). slice_set gs c.args.control c.args.on) (rw (← c.self.view_is) at c.requires.room) in
    within_same _ c.args.plan.now _ (c.cluster_of-cluster.result ∷ []) _ s.controls _ (record s.controls { grabs = slice_set s.controls.grabs c.args.control c.args.on }) _ [] c.to_grabs-change.ensures.plan refl c.to_grabs-change.ensures.before
    (c.to_grabs-change.ensures.after ∙ ap (λ (gs : Grabs). record s.controls { grabs = gs }) grabs) refl
    (grab_within c.args.plan.now s.controls c.args.control c.cluster_of-cluster.result c.args.on c.cluster_of-cluster.ensures.cluster)

-- it is grabbed now, or let go, and those are told whose flags differ
pub returns-clause-makes : goal.returns-clause-makes
returns-clause-makes g c =
    let s = c.self.inside in
    let grabs : c.as_slice.result.now ≡ slice_set s.controls.grabs c.args.control c.args.on =
    c.as_slice.ensures.value ∙ ap (λ (gs : Grabs). slice_set gs c.args.control c.args.on) (rw (← c.self.view_is) at c.requires.room) in
    rw (← c.self.view_is)
    (λ number.
    makes_grab g.D.Validates.verdict c.args.plan.now c.to_grabs-change.result.before.plan.now number c.args.control c.args.on _ _ _ _ refl c.replace_grab.ensures refl c.to_grabs-change.ensures.plan c.to_grabs-change.ensures.before
    (c.to_grabs-change.ensures.after ∙ ap (λ (gs : Grabs). record s.controls { grabs = gs }) grabs ∙ sym c.replace_grab.ensures) c.raise_touched.ensures)
