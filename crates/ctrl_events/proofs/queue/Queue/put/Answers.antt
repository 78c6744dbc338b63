use Rattle.std.proofs.Common.{arith, ◌≡◌, ◌∙◌, ◌+◌, ◌++◌, [], ◌∷◌, List, true, is_some, bit_or, get_or, set, sym, ap, subst}
use Rattle.std.proofs.Math.Path.{ap₂}
use Rattle.std.proofs.lemmas.List.{get_or_read}
use Rattle.ctrl_types.specs.Events.{joined}
use Rattle.ctrl_types.specs.declared.changes.Changes.{Changes}
use Rattle.ctrl_events.specs.declared.event.Latest.{Latest}
use Rattle.ctrl_events.specs.Events.{Waiting, FileEvents, flags_in, other_events, changes_in}
use Rattle.ctrl_events.specs.Order.{OrderData, has, without}
use Rattle.ctrl_events.specs.Queue.{no_latest, events_to, changes_before, IsQueue}
use Rattle.ctrl_events.proofs.QueueLemmas.{is_subscribed, queue_room, queue_raised, written_last, changes_found, file_is}
use Rattle.ctrl_events.proofs.queue.Queue.put.Goals as goal

whole : (x y z : Changes) → x.0 ≡ bit_or y.0 z.0 → x ≡ joined y z
whole x y z is = λ i. record { 0 = is i }

pub index-requires : goal.index-requires
index-requires c =
    let there : has c.self.inside.subscribed.members c.args.control ≡ true =
    sym (is_subscribed c.self.inside.flags.items c.self.inside.subscribed.members c.args.control) ∙ ap (λ (f : FileEvents). is_some (flags_in f.subscribed c.args.control)) c.self.view_is ∙ c.requires.subscribed in
    let within = c.self.invariant.raisable c.args.control there in
    omega (arith, within)

pub index_mut-requires : goal.index_mut-requires
index_mut-requires c =
    let there : has c.self.inside.subscribed.members c.args.control ≡ true =
    sym (is_subscribed c.self.inside.flags.items c.self.inside.subscribed.members c.args.control) ∙ ap (λ (f : FileEvents). is_some (flags_in f.subscribed c.args.control)) c.self.view_is ∙ c.requires.subscribed in
    let within = c.self.invariant.raisable c.args.control there in
    omega (arith, within)

pub put_last-waited-requires-clause-bound : goal.put_last-waited-requires-clause-bound
put_last-waited-requires-clause-bound c =
    let there : has c.self.inside.subscribed.members c.args.control ≡ true =
    sym (is_subscribed c.self.inside.flags.items c.self.inside.subscribed.members c.args.control) ∙ ap (λ (f : FileEvents). is_some (flags_in f.subscribed c.args.control)) c.self.view_is ∙ c.requires.subscribed in
    c.self.invariant.placed c.args.control there

pub put_last-waited-requires-clause-room : goal.put_last-waited-requires-clause-room
put_last-waited-requires-clause-room c =
    let there : has c.self.inside.subscribed.members c.args.control ≡ true =
    sym (is_subscribed c.self.inside.flags.items c.self.inside.subscribed.members c.args.control) ∙ ap (λ (f : FileEvents). is_some (flags_in f.subscribed c.args.control)) c.self.view_is ∙ c.requires.subscribed in
    queue_room c.self.inside.subscribed.members c.self.inside.waiting.members c.self.inside.flags.items c.self.inside.latest.items c.self.inside.waiting.bound c.self.inside.waiting.room c.self.inside.next c.args.control c.self.invariant there

pub invariant_of-self : goal.invariant_of-self
invariant_of-self c =
    let there : has c.self.inside.subscribed.members c.args.control ≡ true =
    sym (is_subscribed c.self.inside.flags.items c.self.inside.subscribed.members c.args.control) ∙ ap (λ (f : FileEvents). is_some (flags_in f.subscribed c.args.control)) c.self.view_is ∙ c.requires.subscribed in
    let members : c.put_last-waited.new.self ≡ record { members = without c.args.control c.self.inside.waiting.members ++ c.args.control ∷ []; bound = c.self.inside.waiting.bound; room = c.self.inside.waiting.room } = c.put_last-waited.ensures.put in
    let latest : Latest = record { changes = c.union.result; payload = c.args.payload.now; sequence = c.self.inside.next } in
    subst (λ (o : OrderData). IsQueue c.self.inside.subscribed.members c.self.inside.flags.items (set c.self.inside.latest.items c.args.control latest) o.members o.bound o.room (c.self.inside.next + 1)) (sym members) (
    queue_raised c.self.inside.subscribed.members c.self.inside.waiting.members c.self.inside.flags.items c.self.inside.latest.items c.self.inside.waiting.bound c.self.inside.waiting.room c.self.inside.next c.args.control latest c.self.invariant there
    )

pub returns : goal.returns
returns c =
    let there : has c.self.inside.subscribed.members c.args.control ≡ true =
    sym (is_subscribed c.self.inside.flags.items c.self.inside.subscribed.members c.args.control) ∙ ap (λ (f : FileEvents). is_some (flags_in f.subscribed c.args.control)) c.self.view_is ∙ c.requires.subscribed in
    let members : c.put_last-waited.new.self ≡ record { members = without c.args.control c.self.inside.waiting.members ++ c.args.control ∷ []; bound = c.self.inside.waiting.bound; room = c.self.inside.waiting.room } = c.put_last-waited.ensures.put in
    let latest : Latest = record { changes = c.union.result; payload = c.args.payload.now; sequence = c.self.inside.next } in
    let ws : List Waiting = events_to c.self.inside.latest.items c.self.inside.waiting.members in
    let read : c.index.result.now ≡ get_or c.self.inside.latest.items c.args.control no_latest = get_or_read c.self.inside.latest.items c.args.control c.index.result.now (c.self.invariant.raisable c.args.control there) c.index.ensures no_latest in
    let before : c.changes_before-before.result ≡ changes_in ws c.args.control =
    c.changes_before-before.ensures ∙ ap₂ changes_before c.put_last-waited.ensures.answer read ∙ sym (changes_found c.self.inside.latest.items c.self.inside.waiting.members c.args.control) in
    let all : c.union.result ≡ joined (changes_in ws c.args.control) c.args.changes = whole c.union.result c.changes_before-before.result c.args.changes (c.union.ensures tt) ∙ ap (λ (x : Changes). joined x c.args.changes) before in
    file_is _ _ _ _ _ _
    (ap (λ (f : FileEvents). f.subscribed) c.self.view_is)
    (ap (λ (o : OrderData). events_to (set c.self.inside.latest.items c.args.control latest) o.members) members ∙ written_last c.self.inside.latest.items c.self.inside.waiting.members c.args.control latest (c.self.invariant.raisable c.args.control there)
    ∙ ap (λ (x : Changes). other_events c.args.control ws ++ record { control = c.args.control; changes = x; payload = c.args.payload.now; sequence = c.self.inside.next } ∷ []) all
    ∙ ap (λ (f : FileEvents). other_events c.args.control f.waiting ++ record { control = c.args.control; changes = joined (changes_in f.waiting c.args.control) c.args.changes; payload = c.args.payload.now; sequence = f.next } ∷ []) c.self.view_is)
    (omega (arith, ap (λ (f : FileEvents). f.next) c.self.view_is))
