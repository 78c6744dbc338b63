use Rattle.std.proofs.Common.{arith, ◌≡◌, ◌∙◌, true, get_or, ◌-◌, sym, ap}
use Rattle.std.proofs.lemmas.List.{get_or_read}
use Rattle.ctrl_events.specs.declared.event.Latest.{Latest}
use Rattle.ctrl_events.specs.Events.{FileEvents, event_at, event_of}
use Rattle.ctrl_events.specs.Order.{has}
use Rattle.ctrl_events.specs.Queue.{no_latest, waiting_from}
use Rattle.ctrl_events.proofs.QueueLemmas.{has_at, waiting_has, event_nth, nothing_nth}
use Rattle.ctrl_events.proofs.queue.Queue.event_at.Goals as goal

pub index-requires : goal.index-requires
index-requires c =
    let there : has c.self.inside.waiting.members c.in-Some.control ≡ true = has_at c.self.inside.waiting.members c.args.place c.in-Some.control (sym c.nth.ensures ∙ c.in-Some.is) in
    let within = c.self.invariant.raisable c.in-Some.control (waiting_has c.self.inside.flags.items c.self.inside.latest.items c.self.inside.subscribed.members c.self.inside.waiting.members c.in-Some.control c.self.invariant.kept there) in
    omega (arith, within)

pub returns-in-Some : goal.returns-in-Some
returns-in-Some c =
    let there : has c.self.inside.waiting.members c.in-Some.control ≡ true = has_at c.self.inside.waiting.members c.args.place c.in-Some.control (sym c.nth.ensures ∙ c.in-Some.is) in
    let within = c.self.invariant.raisable c.in-Some.control (waiting_has c.self.inside.flags.items c.self.inside.latest.items c.self.inside.subscribed.members c.self.inside.waiting.members c.in-Some.control c.self.invariant.kept there) in
    let read : c.index.result.now ≡ get_or c.self.inside.latest.items c.in-Some.control no_latest = get_or_read c.self.inside.latest.items c.in-Some.control c.index.result.now within c.index.ensures no_latest in
    event_nth c.self.inside.latest.items c.self.inside.waiting.members c.args.place c.in-Some.control c.len.result c.event_of.result (sym c.in-Some.is ∙ c.nth.ensures) c.len.ensures.len
    (c.event_of.ensures ∙ ap (λ (t : Latest). event_of (c.len.result - c.args.place - 1) (waiting_from 0 t)) read) ∙ ap (λ (f : FileEvents). event_at f.waiting c.args.place) c.self.view_is

pub returns-in-None : goal.returns-in-None
returns-in-None c =
    nothing_nth c.self.inside.latest.items c.self.inside.waiting.members c.args.place (sym c.in-None.is ∙ c.nth.ensures) ∙ ap (λ (f : FileEvents). event_at f.waiting c.args.place) c.self.view_is
