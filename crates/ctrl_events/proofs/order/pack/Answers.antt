use Rattle.std.proofs.Common.{arith, add-one, ◌≡◌, ◌∙◌, ◌<◌, ℕ, suc, sym, ap, subst, slice_get, map, Option, Some, List, length}
use Rattle.ctrl_events.specs.Order.{logged, renewed}
use Rattle.ctrl_events.proofs.OrderLemmas.{ArePlacedBelow, packed_known, placed_more, placed_all, length_renewed, apart_placed}
use Rattle.ctrl_events.proofs.order.pack.Goals as goal

pub renew_place-requires : goal.renew_place-requires
renew_place-requires c = λ n there.
    let known = packed_known c.args.log.now.items c.args.places.now.items c.loop-place.place n c.requires (sym (ap (λ es. slice_get es c.loop-place.place) (c.as_slice.ensures.value ∙ c.drop_empty.ensures.numbers)) ∙ there) in
    omega (arith, known, c.loop-place.invariant.bound)

pub loop-place-preserved : goal.loop-place-preserved
loop-place-preserved c =
    let k : ℕ = c.loop-place.place in
    let packed : List (Option ℕ) = map (λ n. Some n) (logged c.args.log.now.items) in
    let below : ArePlacedBelow k packed c.loop-place.places.items = subst (λ es. ArePlacedBelow k es c.loop-place.places.items) c.drop_empty.ensures.numbers c.loop-place.invariant.placed in
    let known : (n : ℕ) → slice_get packed k ≡ Some (Some n) → n < length c.loop-place.places.items = λ n there. (let fits = packed_known c.args.log.now.items c.args.places.now.items k n c.requires there in omega (arith, fits, c.loop-place.invariant.bound)) in
    let more = placed_more (logged c.args.log.now.items) k c.loop-place.places.items (apart_placed c.args.log.now.items c.args.places.now.items c.requires) known below in
    let made : c.renew_place.new.places.items ≡ renewed k (slice_get packed k) c.loop-place.places.items = c.renew_place.ensures ∙ ap (λ es. renewed k (slice_get es k) c.loop-place.places.items) (c.as_slice.ensures.value ∙ c.drop_empty.ensures.numbers) in
    rw add-one (record {
      placed = subst (λ es. ArePlacedBelow (suc k) es c.renew_place.new.places.items) (sym c.drop_empty.ensures.numbers) (subst (ArePlacedBelow (suc k) packed) (sym made) more);
      bound = ap length made ∙ length_renewed k (slice_get packed k) c.loop-place.places.items ∙ c.loop-place.invariant.bound;
    })

pub returns-clause-placed : goal.returns-clause-placed
returns-clause-placed c = placed_all c.drop_empty.new.log.items c.loop-place.place c.loop-place.places.items (omega (arith, c.loop-place-test.false, c.len-place-end.ensures)) c.loop-place.invariant.placed
