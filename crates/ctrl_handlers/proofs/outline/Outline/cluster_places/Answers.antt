use Rattle.std.proofs.Common.{◌≡◌, ℕ, List, get_or, Some, position, ap, sym, ◌∙◌, arith, rules}
use Rattle.ctrl_handlers.specs.Plan.{PlanData, has_member, cluster_of}
use Rattle.ctrl_handlers.proofs.ClusterLemmas.{place_within, places_more}
use Rattle.ctrl_handlers.proofs.outline.Outline.cluster_places.Goals as goal

-- the place is within the clusters, of which there are no more than controls
pub overflow_cast-place : goal.overflow_cast-place
overflow_cast-place c =
    omega (
      arith,
      place_within _ c.loop-control.control c.unwrap-place.result c.self.invariant
          (ap (position (has_member c.loop-control.control)) (sym c.as_slice.ensures.value) ∙ sym c.place_of.ensures ∙ c.unwrap-place.ensures),
    )

-- one more control's place
pub loop-control-preserved : goal.loop-control-preserved
loop-control-preserved c =
    let here : cluster_of c.args.self.now c.loop-control.control ≡ Some c.unwrap-place.result =
    ap (λ (p : PlanData). cluster_of p c.loop-control.control) (sym c.self.view_is)
    ∙ ap (position (has_member c.loop-control.control)) (sym c.as_slice.ensures.value) ∙ sym c.place_of.ensures ∙ c.unwrap-place.ensures in
    record {
      many = search rules;
      are = λ d within.
          places_more c.args.self.now c.loop-control.places.items c.loop-control.control c.unwrap-place.result c.loop-control.invariant.many c.loop-control.invariant.are here d within
          ∙ ap (λ (places : List ℕ). Some (get_or places d 0)) (sym c.push_reserved.ensures.items);
      room = omega (arith, c.loop-control.invariant.room, c.push_reserved.ensures.capacity);
    }
