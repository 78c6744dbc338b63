use Rattle.std.proofs.Common.{◌∙◌, sym, ap, is_some}
use Rattle.ctrl_events.specs.Events.{FileEvents, flags_in}
use Rattle.ctrl_events.specs.Order.{has}
use Rattle.ctrl_events.proofs.QueueLemmas.{is_subscribed}
use Rattle.ctrl_events.proofs.queue.Queue.mark.Goals as goal

pub returns-clause-marked : goal.returns-clause-marked
returns-clause-marked c = λ d there. c.mark_all.ensures.marked d (
    ap (λ ns. has ns d) c.entries.ensures ∙ sym (is_subscribed c.self.inside.flags.items c.self.inside.subscribed.members d) ∙ ap (λ (f : FileEvents). is_some (flags_in f.subscribed d)) c.self.view_is ∙ there
    )
