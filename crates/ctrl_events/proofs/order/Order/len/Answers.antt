use Rattle.std.proofs.Common.{arith, subst}
use Rattle.ctrl_events.specs.Order.{OrderData, AreApart}
use Rattle.ctrl_events.proofs.OrderLemmas.{apart_placed, length_logged}
use Rattle.ctrl_events.proofs.order.Order.len.Goals as goal

pub returns-clause-apart : goal.returns-clause-apart
returns-clause-apart c = subst (λ (o : OrderData). AreApart o.members) c.self.view_is (apart_placed c.self.inside.log.items c.self.inside.places.items c.self.invariant.placed)

pub returns-clause-small : goal.returns-clause-small
returns-clause-small c = let fewer = length_logged c.self.inside.log.items in omega (arith, fewer, c.self.invariant.counted)
