use Rattle.std.proofs.Common.{ℕ, List, Option, sym, subst}
use Rattle.ctrl_events.specs.Order.{IsOrder}
use Rattle.ctrl_events.proofs.OrderLemmas.{placed_kept}
use Rattle.ctrl_events.proofs.order.Order.reserve.Goals as goal

pub invariant_of-self-2 : goal.invariant_of-self-2
invariant_of-self-2 c = subst (λ (es : List (Option ℕ)). IsOrder es c.keep_place.new.places.items c.self.inside.first c.self.inside.count) (sym c.reserve.ensures.items) (record {
  placed = placed_kept c.self.inside.log.items c.self.inside.places.items c.keep_place.new.places.items c.self.invariant.placed c.keep_place.ensures.kept;
  passed = c.self.invariant.passed;
  counted = c.self.invariant.counted;
  few = c.self.invariant.few;
})
