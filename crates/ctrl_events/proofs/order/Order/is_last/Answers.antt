use Rattle.std.proofs.Common.{arith, ◌≡◌, ◌∙◌, ◌-◌, ◌++◌, [], ◌∷◌, Some, slice_get, sym, ap, subst}
use Rattle.ctrl_events.specs.Order.{OrderData, has, without, is_of}
use Rattle.ctrl_events.proofs.OrderLemmas.{entry_is, has_there, last_stays}
use Rattle.ctrl_events.proofs.order.Order.is_last.Goals as goal

pub returns-then-len-gt0-clause-there : goal.returns-then-len-gt0-clause-there
returns-then-len-gt0-clause-there c = λ is.
    let there : slice_get c.self.inside.log.items (c.len-len.result - 1) ≡ Some (Some c.args.number) =
    entry_is (slice_get c.self.inside.log.items (c.len-len.result - 1)) c.args.number (sym (c.is_at.ensures ∙ ap (λ es. is_of c.args.number (slice_get es (c.len-len.result - 1))) c.as_slice.ensures.value) ∙ is) in
    sym (ap (λ (o : OrderData). has o.members c.args.number) c.self.view_is) ∙ has_there c.self.inside.log.items (c.len-len.result - 1) c.args.number there

pub returns-then-len-gt0-clause-last : goal.returns-then-len-gt0-clause-last
returns-then-len-gt0-clause-last c = λ is.
    let there : slice_get c.self.inside.log.items (c.len-len.result - 1) ≡ Some (Some c.args.number) =
    entry_is (slice_get c.self.inside.log.items (c.len-len.result - 1)) c.args.number (sym (c.is_at.ensures ∙ ap (λ es. is_of c.args.number (slice_get es (c.len-len.result - 1))) c.as_slice.ensures.value) ∙ is) in
    subst (λ (o : OrderData). o.members ≡ without c.args.number o.members ++ c.args.number ∷ []) c.self.view_is
    (last_stays c.self.inside.log.items c.self.inside.places.items (c.len-len.result - 1) c.args.number c.self.invariant.placed (omega (arith, c.len-len.ensures, c.if-len-gt0.true)) there)
