use Rattle.std.proofs.Common.{◌∙◌, ◌<◌, List, length, sym, ap, subst}
use Rattle.ctrl_events.specs.declared.event.Latest.{Latest}
use Rattle.ctrl_events.specs.Order.{has}
use Rattle.ctrl_events.proofs.QueueLemmas.{waiting_has}
use Rattle.ctrl_events.proofs.queue.Queue.waits_like.Goals as goal

pub are_alike-requires-clause-own : goal.are_alike-requires-clause-own
are_alike-requires-clause-own c = λ d there. subst (λ (ts : List Latest). d < length ts) (sym c.as_slice.ensures.value) (c.self.invariant.raisable d (waiting_has c.self.inside.flags.items c.self.inside.latest.items c.self.inside.subscribed.members c.self.inside.waiting.members d c.self.invariant.kept (sym (ap (λ ns. has ns d) c.entries.ensures) ∙ there)))

pub are_alike-requires-clause-other : goal.are_alike-requires-clause-other
are_alike-requires-clause-other c = λ d there. subst (λ (ts : List Latest). d < length ts) (sym c.as_slice-2.ensures.value) (c.other.invariant.raisable d (waiting_has c.other.inside.flags.items c.other.inside.latest.items c.other.inside.subscribed.members c.other.inside.waiting.members d c.other.invariant.kept (sym (ap (λ ns. has ns d) c.entries-2.ensures) ∙ there)))
