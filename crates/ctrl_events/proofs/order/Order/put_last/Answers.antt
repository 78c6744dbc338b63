use Rattle.std.proofs.Common.{◌∙◌, ap}
use Rattle.ctrl_events.specs.Order.{OrderData, has}
use Rattle.ctrl_events.proofs.QueueLemmas.{none_without}
use Rattle.ctrl_events.proofs.order.Order.put_last.Goals as goal

pub push-requires-clause-absent : goal.push-requires-clause-absent
push-requires-clause-absent c = ap (λ (o : OrderData). has o.members c.args.number) c.remove-was.ensures.left ∙ none_without c.args.number c.args.self.now.members
