use Rattle.std.proofs.Common.{◌∙◌, ◌≤◌, length, slice_get, drop, sym, ap, subst}
use Rattle.ctrl_events.specs.Order.{OrderData, logged}
use Rattle.ctrl_events.proofs.OrderLemmas.{within_log, rest_of}
use Rattle.ctrl_events.proofs.order.Order.nth.Goals as goal

pub entries_from-requires : goal.entries_from-requires
entries_from-requires c = subst (λ es. c.self.inside.first ≤ length es) (sym c.as_slice.ensures.value) (within_log c.self.inside.log.items c.self.inside.first c.self.invariant.passed)

pub returns : goal.returns
returns c =
    c.nth_entry.ensures ∙ ap (λ es. slice_get (logged es) c.args.place) (c.entries_from.ensures ∙ ap (λ es. drop c.self.inside.first es) c.as_slice.ensures.value)
    ∙ ap (λ ns. slice_get ns c.args.place) (rest_of c.self.inside.log.items c.self.inside.first c.self.invariant.passed)
    ∙ ap (λ (o : OrderData). slice_get o.members c.args.place) c.self.view_is
