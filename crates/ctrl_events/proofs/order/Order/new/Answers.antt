use Rattle.std.proofs.Common.{arith, List, [], ℕ, sym, subst, Option}
use Rattle.ctrl_events.specs.Order.{IsOrder}
use Rattle.ctrl_events.proofs.OrderLemmas.{placed_none, empty_none}
use Rattle.ctrl_events.proofs.order.Order.new.Goals as goal

pub invariant_of-result : goal.invariant_of-result
invariant_of-result c = subst (λ (log : List (Option ℕ)). IsOrder log c.new-2.result.items 0 0) (sym c.new.ensures.items) (record {
  placed = placed_none c.new-2.result.items;
  passed = empty_none [];
  counted = omega arith;
  few = omega arith;
})
