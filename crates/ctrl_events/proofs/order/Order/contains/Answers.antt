use Rattle.std.proofs.Common.{◌∙◌, ap, is_some}
use Rattle.std.proofs.Math.Path.{ap₂}
use Rattle.ctrl_events.specs.Order.{OrderData, has, place_in}
use Rattle.ctrl_events.proofs.OrderLemmas.{contained}
use Rattle.ctrl_events.proofs.order.Order.contains.Goals as goal

pub returns : goal.returns
returns c =
    c.is_some.ensures ∙ ap is_some c.place_in.ensures ∙ ap₂ (λ log places. is_some (place_in log places c.args.number)) c.as_slice.ensures.value c.as_slice-2.ensures.value
    ∙ contained c.self.inside.log.items c.self.inside.places.items c.args.number c.self.invariant.placed ∙ ap (λ (o : OrderData). has o.members c.args.number) c.self.view_is
