use Rattle.std.proofs.Common.{arith, ◌≡◌, ◌∙◌, ◌<◌, ◌++◌, ◌+◌, [], ◌∷◌, ℕ, List, Option, Some, false, set, length, sym, ap, subst}
use Rattle.std.proofs.lemmas.List.{length-set, length_push}
use Rattle.ctrl_events.specs.Order.{OrderData, has, logged, ArePlaced, IsOrder}
use Rattle.ctrl_events.proofs.OrderLemmas.{placed_last, empty_last, logged_last, order_is}
use Rattle.ctrl_events.proofs.order.Order.push.Goals as goal

pub invariant_of-self : goal.invariant_of-self
invariant_of-self c =
    let log : List (Option ℕ) = c.self.inside.log.items in
    let n : ℕ = c.args.number in
    let absent : has (logged log) n ≡ false = ap (λ (o : OrderData). has o.members n) c.self.view_is ∙ c.requires.absent in
    let within : n < length c.self.inside.places.items = subst (λ (o : OrderData). n < o.bound) (sym c.self.view_is) c.requires.bound in
    let place : c.len.result ≡ length log = omega (arith, c.len.ensures) in
    let one_more = ap length (logged_last log n) ∙ length_push (logged log) n in
    let longer = length_push log (Some n) in
    subst (λ (es : List (Option ℕ)). IsOrder es (set c.self.inside.places.items n c.len.result) c.self.inside.first (c.self.inside.count + 1)) (sym c.push_reserved.ensures.items) (record {
      placed = subst (λ (k : ℕ). ArePlaced (log ++ Some n ∷ []) (set c.self.inside.places.items n k)) (sym place) (placed_last log c.self.inside.places.items n c.self.invariant.placed absent within);
      passed = empty_last log c.self.inside.first (Some n) c.self.invariant.passed;
      counted = omega (arith, one_more, c.self.invariant.counted);
      few = omega (arith, longer, c.self.invariant.few);
    })

pub returns : goal.returns
returns c = order_is _ _ _ _ _ _
    (ap logged c.push_reserved.ensures.items ∙ logged_last c.self.inside.log.items c.args.number ∙ ap (λ (o : OrderData). o.members ++ c.args.number ∷ []) c.self.view_is)
    (length-set c.self.inside.places.items c.args.number c.len.result ∙ ap (λ (o : OrderData). o.bound) c.self.view_is)
    (c.push_reserved.ensures.capacity ∙ ap (λ (o : OrderData). o.room) c.self.view_is)
