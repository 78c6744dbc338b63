use Rattle.std.proofs.Common.{arith, ◌≡◌, ◌∙◌, true, length, get_or, sym, ap, subst}
use Rattle.std.proofs.lemmas.List.{get_or_read}
use Rattle.ctrl_events.specs.declared.event.Latest.{Latest}
use Rattle.ctrl_events.specs.Events.{FileEvents, event_of, first_waiting, behind_first}
use Rattle.ctrl_events.specs.Order.{OrderData, has}
use Rattle.ctrl_events.specs.Queue.{no_latest, waiting_from, events_to, IsQueue}
use Rattle.ctrl_events.proofs.QueueLemmas.{has_at, waiting_has, taken_first, none_taken, behind, queue_taken, file_is}
use Rattle.ctrl_events.proofs.queue.Queue.take.Goals as goal
use Rattle.ctrl_events.proofs.queue.Queue.take.Goals.{in-Some, in-None}

pub index-requires : goal.index-requires
index-requires c =
    let there : has c.self.inside.waiting.members c.in-Some.control ≡ true = has_at c.self.inside.waiting.members 0 c.in-Some.control (sym c.take_first.ensures.answer ∙ c.in-Some.is) in
    let within = c.self.invariant.raisable c.in-Some.control (waiting_has c.self.inside.flags.items c.self.inside.latest.items c.self.inside.subscribed.members c.self.inside.waiting.members c.in-Some.control c.self.invariant.kept there) in
    omega (arith, within)

pub invariant_of-self : goal.invariant_of-self
invariant_of-self c = subst (λ (o : OrderData). IsQueue c.self.inside.subscribed.members c.self.inside.flags.items c.self.inside.latest.items o.members o.bound o.room c.self.inside.next) (sym c.take_first.ensures.left) (
    queue_taken c.self.inside.subscribed.members c.self.inside.waiting.members c.self.inside.flags.items c.self.inside.latest.items c.self.inside.waiting.bound c.self.inside.waiting.room c.self.inside.next c.self.invariant
    )

pub returns-clause-answer : goal.returns-clause-answer
returns-clause-answer c = elim c.match-take_first.branch [
  | in-Some w ↦ (
      let there : has c.self.inside.waiting.members w.in-Some.control ≡ true = has_at c.self.inside.waiting.members 0 w.in-Some.control (sym c.take_first.ensures.answer ∙ w.in-Some.is) in
      let within = c.self.invariant.raisable w.in-Some.control (waiting_has c.self.inside.flags.items c.self.inside.latest.items c.self.inside.subscribed.members c.self.inside.waiting.members w.in-Some.control c.self.invariant.kept there) in
      let read : w.index.result.now ≡ get_or c.self.inside.latest.items w.in-Some.control no_latest = get_or_read c.self.inside.latest.items w.in-Some.control w.index.result.now within w.index.ensures no_latest in
      w.result-is ∙ taken_first c.self.inside.latest.items c.self.inside.waiting.members w.in-Some.control w.len.result w.event_of.result (sym w.in-Some.is ∙ c.take_first.ensures.answer)
      (w.len.ensures.len ∙ ap (λ (o : OrderData). length o.members) c.take_first.ensures.left) (w.event_of.ensures ∙ ap (λ (t : Latest). event_of w.len.result (waiting_from 0 t)) read)
      ∙ ap (λ (f : FileEvents). first_waiting f.waiting) c.self.view_is
      )
  | in-None w ↦ w.result-is ∙ none_taken c.self.inside.latest.items c.self.inside.waiting.members (sym w.in-None.is ∙ c.take_first.ensures.answer) ∙ ap (λ (f : FileEvents). first_waiting f.waiting) c.self.view_is
]

pub returns-clause-events : goal.returns-clause-events
returns-clause-events c = file_is _ _ _ _ _ _
    (ap (λ (f : FileEvents). f.subscribed) c.self.view_is)
    (ap (λ (o : OrderData). events_to c.self.inside.latest.items o.members) c.take_first.ensures.left ∙ behind c.self.inside.latest.items c.self.inside.waiting.members ∙ ap (λ (f : FileEvents). behind_first f.waiting) c.self.view_is)
    (ap (λ (f : FileEvents). f.next) c.self.view_is)
