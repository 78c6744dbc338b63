use Rattle.std.proofs.Common.{◌≡◌, ◌∙◌, ℕ, List, length, nat_eq, subst, sym, ap, Some, None}
use Rattle.std.specs.Map.{lookup}
use Rattle.ctrl_events.specs.Events.{FileEvents, EventsData, after_subscribe}
use Rattle.ctrl_events.specs.Heard.{IsHeard, AreHeard}
use Rattle.ctrl_events.proofs.FileLemmas.{looked_up, missing, accepted}
use Rattle.ctrl_events.proofs.HeardLemmas.{more_heard, first_heard}
use Rattle.ctrl_events.proofs.events.Events.subscribe_first.Goals as goal

pub returns-in-Ok-clause-ok : goal.returns-in-Ok-clause-ok
returns-in-Ok-clause-ok c =
    let change : FileEvents → FileEvents = after_subscribe c.args.control c.args.flags c.args.changes c.args.payload.now in
    let none : None ≡ lookup (nat_eq c.args.fh.0) c.self.inside.files.entries = sym (ap (λ (d : EventsData). lookup (nat_eq c.args.fh.0) d.files) c.self.view_is ∙ c.requires) in
    looked_up c.self.inside.files.entries c.insert.new.self.entries c.args.self.now c.args.fh.0 (Some c.subscribe.new.self) change c.self.view_is c.in-Ok.ensures.updates.0
    (accepted c.subscribe.result _ c.if-is_err-2.ensures.value c.subscribe.ensures.ok ∙ ap change (c.new-queue.ensures ∙ missing c.self.inside.files.entries c.args.self.now c.args.fh.0 c.self.view_is none))

pub invariant_of-self : goal.invariant_of-self
invariant_of-self c = more_heard c.self.inside.files.entries c.self.inside.heard.items c.hear.new.heard.items c.self.invariant c.hear.ensures.kept

pub invariant_of-self-then-is_err-2 : goal.invariant_of-self-then-is_err-2
invariant_of-self-then-is_err-2 c = more_heard c.self.inside.files.entries c.self.inside.heard.items c.hear.new.heard.items c.self.invariant c.hear.ensures.kept

pub invariant_of-self-in-Ok : goal.invariant_of-self-in-Ok
invariant_of-self-in-Ok c =
    let none : lookup (nat_eq c.args.fh.0) c.self.inside.files.entries ≡ None = ap (λ (d : EventsData). lookup (nat_eq c.args.fh.0) d.files) c.self.view_is ∙ c.requires in
    let marked : IsHeard c.hear.new.heard.items (length c.self.inside.files.entries) c.args.control = subst (λ (p : ℕ). IsHeard c.hear.new.heard.items p c.args.control) c.len-place.ensures.len (accepted c.hear.result _ c.if-is_err.ensures.value c.hear.ensures.heard) in
    subst (λ (es : List (ℕ × FileEvents)). AreHeard c.hear.new.heard.items es) (sym c.in-Ok.ensures.entries) (
    first_heard c.self.inside.files.entries c.self.inside.heard.items c.hear.new.heard.items c.args.fh.0 c.args.control c.args.flags c.args.changes c.args.payload.now c.subscribe.new.self c.self.invariant c.hear.ensures.kept marked none
    (accepted c.subscribe.result _ c.if-is_err-2.ensures.value c.subscribe.ensures.ok ∙ ap (after_subscribe c.args.control c.args.flags c.args.changes c.args.payload.now) c.new-queue.ensures)
    )

pub invariant_of-self-2 : goal.invariant_of-self-2
invariant_of-self-2 c = subst (λ (es : List (ℕ × FileEvents)). AreHeard c.hear.new.heard.items es) (sym c.in-Err.ensures.err) (more_heard c.self.inside.files.entries c.self.inside.heard.items c.hear.new.heard.items c.self.invariant c.hear.ensures.kept)
