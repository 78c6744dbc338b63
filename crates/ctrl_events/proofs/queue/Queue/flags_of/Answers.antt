use Rattle.std.proofs.Common.{◌≡◌, ◌∙◌, Bool, true, false, None, Some, cond, get_or, sym, ap}
use Rattle.std.proofs.lemmas.List.{get_or_read}
use Rattle.ctrl_types.specs.declared.sub_flags.SubFlags.{SubFlags}
use Rattle.ctrl_events.specs.Events.{FileEvents, flags_in}
use Rattle.ctrl_events.specs.Order.{has}
use Rattle.ctrl_events.specs.Queue.{no_flags}
use Rattle.ctrl_events.proofs.QueueLemmas.{flags_found}
use Rattle.ctrl_events.proofs.queue.Queue.flags_of.Goals as goal

pub returns-then-not-contains : goal.returns-then-not-contains
returns-then-not-contains c =
    let none : has c.self.inside.subscribed.members c.args.control ≡ false = sym c.contains.ensures ∙ c.if-not-contains.true in
    ap (λ (b : Bool). cond b (Some (get_or c.self.inside.flags.items c.args.control no_flags)) None) (sym none) ∙ sym (flags_found c.self.inside.flags.items c.self.inside.subscribed.members c.args.control)
    ∙ ap (λ (f : FileEvents). flags_in f.subscribed c.args.control) c.self.view_is

pub returns : goal.returns
returns c =
    let there : has c.self.inside.subscribed.members c.args.control ≡ true = sym c.contains.ensures ∙ c.if-not-contains.false in
    let read : c.index.result.now ≡ get_or c.self.inside.flags.items c.args.control no_flags = get_or_read c.self.inside.flags.items c.args.control c.index.result.now (c.self.invariant.flagged c.args.control there) c.index.ensures no_flags in
    ap (λ (f : SubFlags). Some f) read
    ∙ ap (λ (b : Bool). cond b (Some (get_or c.self.inside.flags.items c.args.control no_flags)) None) (sym there) ∙ sym (flags_found c.self.inside.flags.items c.self.inside.subscribed.members c.args.control)
    ∙ ap (λ (f : FileEvents). flags_in f.subscribed c.args.control) c.self.view_is
