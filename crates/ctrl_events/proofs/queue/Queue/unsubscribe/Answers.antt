use Rattle.std.proofs.Common.{◌∙◌, ap, sym, subst}
use Rattle.ctrl_events.specs.Events.{FileEvents, other_events}
use Rattle.ctrl_events.specs.Order.{OrderData, without}
use Rattle.ctrl_events.specs.Queue.{subscriptions, events_to, IsQueue}
use Rattle.ctrl_events.proofs.KeptLemmas.{other_subscriptions}
use Rattle.ctrl_events.proofs.QueueLemmas.{subscriptions_without, events_without, queue_without, file_is}
use Rattle.ctrl_events.proofs.queue.Queue.unsubscribe.Goals as goal

pub invariant_of-self : goal.invariant_of-self
invariant_of-self c =
    subst (λ (o : OrderData). IsQueue o.members c.self.inside.flags.items c.self.inside.latest.items c.remove-2.new.self.members c.remove-2.new.self.bound c.remove-2.new.self.room c.self.inside.next) (sym c.remove.ensures.left) (
    subst (λ (o : OrderData). IsQueue (without c.args.control c.self.inside.subscribed.members) c.self.inside.flags.items c.self.inside.latest.items o.members o.bound o.room c.self.inside.next) (sym c.remove-2.ensures.left) (
    queue_without c.self.inside.subscribed.members c.self.inside.waiting.members c.self.inside.flags.items c.self.inside.latest.items c.self.inside.waiting.bound c.self.inside.waiting.room c.self.inside.next c.args.control c.self.invariant
    ))

pub returns : goal.returns
returns c = file_is _ _ _ _ _ _
    (ap (λ (o : OrderData). subscriptions c.self.inside.flags.items o.members) c.remove.ensures.left ∙ subscriptions_without c.self.inside.flags.items c.self.inside.subscribed.members c.args.control
    ∙ ap (λ (f : FileEvents). other_subscriptions c.args.control f.subscribed) c.self.view_is)
    (ap (λ (o : OrderData). events_to c.self.inside.latest.items o.members) c.remove-2.ensures.left ∙ events_without c.self.inside.latest.items c.self.inside.waiting.members c.args.control
    ∙ ap (λ (f : FileEvents). other_events c.args.control f.waiting) c.self.view_is)
    (ap (λ (f : FileEvents). f.next) c.self.view_is)
