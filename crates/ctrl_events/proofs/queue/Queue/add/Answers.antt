use Rattle.std.proofs.Common.{arith, ◌≡◌, ◌∙◌, ◌++◌, [], ◌∷◌, false, true, is_some, set, sym, ap, subst}
use Rattle.ctrl_events.specs.Events.{FileEvents, flags_in}
use Rattle.ctrl_events.specs.Order.{OrderData, has}
use Rattle.ctrl_events.specs.Queue.{subscriptions, events_to, IsQueue}
use Rattle.ctrl_events.proofs.KeptLemmas.{now_there}
use Rattle.ctrl_events.proofs.OrderLemmas.{whenever_not}
use Rattle.ctrl_events.proofs.QueueLemmas.{is_subscribed, one_more, same_grown, queue_grown, queue_added, file_is}
use Rattle.ctrl_events.proofs.queue.Queue.add.Goals as goal

pub push-requires-clause-absent : goal.push-requires-clause-absent
push-requires-clause-absent c =
    let none : has c.self.inside.subscribed.members c.args.control ≡ false =
    sym (is_subscribed c.self.inside.flags.items c.self.inside.subscribed.members c.args.control) ∙ ap (λ (f : FileEvents). is_some (flags_in f.subscribed c.args.control)) c.self.view_is ∙ c.requires in
    ap (λ ms. has ms c.args.control) c.reserve.ensures.members ∙ none

pub invariant_of-self-in_err-make_room : goal.invariant_of-self-in_err-make_room
invariant_of-self-in_err-make_room c =
    let grown : IsQueue c.self.inside.subscribed.members c.make_room.new.flags.items c.make_room.new.latest.items c.self.inside.waiting.members c.reserve-2.new.self.bound c.reserve-2.new.self.room c.self.inside.next =
    queue_grown c.self.inside.subscribed.members c.self.inside.waiting.members c.self.inside.flags.items c.make_room.new.flags.items c.self.inside.latest.items c.make_room.new.latest.items c.self.inside.waiting.bound c.reserve-2.new.self.bound c.self.inside.waiting.room c.reserve-2.new.self.room c.self.inside.next
    c.self.invariant c.make_room.ensures.grown c.reserve-2.ensures.bound_grows c.reserve-2.ensures.room_grows in
    subst (λ ms. IsQueue ms c.make_room.new.flags.items c.make_room.new.latest.items c.reserve-2.new.self.members c.reserve-2.new.self.bound c.reserve-2.new.self.room c.self.inside.next) (sym c.reserve.ensures.members) (
    subst (λ ms. IsQueue c.self.inside.subscribed.members c.make_room.new.flags.items c.make_room.new.latest.items ms c.reserve-2.new.self.bound c.reserve-2.new.self.room c.self.inside.next) (sym c.reserve-2.ensures.members) grown
    )

pub returns-in_err-make_room-clause-err : goal.returns-in_err-make_room-clause-err
returns-in_err-make_room-clause-err c =
    let same = same_grown c.self.inside.subscribed.members c.self.inside.waiting.members c.self.inside.flags.items c.make_room.new.flags.items c.self.inside.latest.items c.make_room.new.latest.items c.self.inside.waiting.bound c.self.inside.waiting.room c.self.inside.next c.self.invariant c.make_room.ensures.grown in
    whenever_not c.from_residual-in_err-make_room.result _ (file_is _ _ _ _ _ _
    (ap (subscriptions c.make_room.new.flags.items) c.reserve.ensures.members ∙ same.0 ∙ ap (λ (f : FileEvents). f.subscribed) c.self.view_is)
    (ap (events_to c.make_room.new.latest.items) c.reserve-2.ensures.members ∙ same.1 ∙ ap (λ (f : FileEvents). f.waiting) c.self.view_is)
    (ap (λ (f : FileEvents). f.next) c.self.view_is))

pub invariant_of-self-2 : goal.invariant_of-self-2
invariant_of-self-2 c =
    let none : has c.self.inside.subscribed.members c.args.control ≡ false =
    sym (is_subscribed c.self.inside.flags.items c.self.inside.subscribed.members c.args.control) ∙ ap (λ (f : FileEvents). is_some (flags_in f.subscribed c.args.control)) c.self.view_is ∙ c.requires in
    let grown : IsQueue c.self.inside.subscribed.members c.make_room.new.flags.items c.make_room.new.latest.items c.self.inside.waiting.members c.reserve-2.new.self.bound c.reserve-2.new.self.room c.self.inside.next =
    queue_grown c.self.inside.subscribed.members c.self.inside.waiting.members c.self.inside.flags.items c.make_room.new.flags.items c.self.inside.latest.items c.make_room.new.latest.items c.self.inside.waiting.bound c.reserve-2.new.self.bound c.self.inside.waiting.room c.reserve-2.new.self.room c.self.inside.next
    c.self.invariant c.make_room.ensures.grown c.reserve-2.ensures.bound_grows c.reserve-2.ensures.room_grows in
    let members : c.push.new.self.members ≡ c.self.inside.subscribed.members ++ c.args.control ∷ [] = ap (λ (o : OrderData). o.members) c.push.ensures ∙ ap (λ ms. ms ++ c.args.control ∷ []) c.reserve.ensures.members in
    subst (λ ms. IsQueue ms (set c.make_room.new.flags.items c.args.control c.args.flags) c.make_room.new.latest.items c.reserve-2.new.self.members c.reserve-2.new.self.bound c.reserve-2.new.self.room c.self.inside.next) (sym members) (
    subst (λ ms. IsQueue (c.self.inside.subscribed.members ++ c.args.control ∷ []) (set c.make_room.new.flags.items c.args.control c.args.flags) c.make_room.new.latest.items ms c.reserve-2.new.self.bound c.reserve-2.new.self.room c.self.inside.next) (sym c.reserve-2.ensures.members) (
    queue_added c.self.inside.subscribed.members c.self.inside.waiting.members c.make_room.new.flags.items c.make_room.new.latest.items c.reserve-2.new.self.bound c.reserve-2.new.self.room c.self.inside.next c.args.control c.args.flags grown none
    c.in_ok-make_room.ensures.bound c.in_ok-make_room.ensures.raisable c.in_ok-reserve-2.ensures.bound (omega (arith, c.len-fits.ensures.len, c.in_ok-reserve-2.ensures.room))
    ))

pub returns-clause-ok : goal.returns-clause-ok
returns-clause-ok c =
    let none : has c.self.inside.subscribed.members c.args.control ≡ false =
    sym (is_subscribed c.self.inside.flags.items c.self.inside.subscribed.members c.args.control) ∙ ap (λ (f : FileEvents). is_some (flags_in f.subscribed c.args.control)) c.self.view_is ∙ c.requires in
    let members : c.push.new.self.members ≡ c.self.inside.subscribed.members ++ c.args.control ∷ [] = ap (λ (o : OrderData). o.members) c.push.ensures ∙ ap (λ ms. ms ++ c.args.control ∷ []) c.reserve.ensures.members in
    let made : subscriptions (set c.make_room.new.flags.items c.args.control c.args.flags) c.push.new.self.members ≡ subscriptions c.self.inside.flags.items c.self.inside.subscribed.members ++ record { control = c.args.control; flags = c.args.flags } ∷ [] =
    ap (subscriptions (set c.make_room.new.flags.items c.args.control c.args.flags)) members
    ∙ one_more c.self.inside.flags.items c.make_room.new.flags.items c.self.inside.subscribed.members c.args.control c.args.flags none c.self.invariant.flagged c.in_ok-make_room.ensures.bound c.make_room.ensures.grown.same_flags in
    let same = same_grown c.self.inside.subscribed.members c.self.inside.waiting.members c.self.inside.flags.items c.make_room.new.flags.items c.self.inside.latest.items c.make_room.new.latest.items c.self.inside.waiting.bound c.self.inside.waiting.room c.self.inside.next c.self.invariant c.make_room.ensures.grown in
    file_is _ _ _ _ _ _
    (made ∙ ap (λ (f : FileEvents). f.subscribed ++ record { control = c.args.control; flags = c.args.flags } ∷ []) c.self.view_is)
    (ap (events_to c.make_room.new.latest.items) c.reserve-2.ensures.members ∙ same.1 ∙ ap (λ (f : FileEvents). f.waiting) c.self.view_is)
    (ap (λ (f : FileEvents). f.next) c.self.view_is)

pub returns-clause-there : goal.returns-clause-there
returns-clause-there c =
    let none : has c.self.inside.subscribed.members c.args.control ≡ false =
    sym (is_subscribed c.self.inside.flags.items c.self.inside.subscribed.members c.args.control) ∙ ap (λ (f : FileEvents). is_some (flags_in f.subscribed c.args.control)) c.self.view_is ∙ c.requires in
    let members : c.push.new.self.members ≡ c.self.inside.subscribed.members ++ c.args.control ∷ [] = ap (λ (o : OrderData). o.members) c.push.ensures ∙ ap (λ ms. ms ++ c.args.control ∷ []) c.reserve.ensures.members in
    let made : subscriptions (set c.make_room.new.flags.items c.args.control c.args.flags) c.push.new.self.members ≡ subscriptions c.self.inside.flags.items c.self.inside.subscribed.members ++ record { control = c.args.control; flags = c.args.flags } ∷ [] =
    ap (subscriptions (set c.make_room.new.flags.items c.args.control c.args.flags)) members
    ∙ one_more c.self.inside.flags.items c.make_room.new.flags.items c.self.inside.subscribed.members c.args.control c.args.flags none c.self.invariant.flagged c.in_ok-make_room.ensures.bound c.make_room.ensures.grown.same_flags in
    subst (λ ss. is_some (flags_in ss c.args.control) ≡ true) (sym made) (now_there (subscriptions c.self.inside.flags.items c.self.inside.subscribed.members) c.args.control c.args.flags)
