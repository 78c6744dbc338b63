use Rattle.std.proofs.Common.{◌∙◌, ◌≡◌, ◌<◌, ℕ, List, Some, nat_eq, sym, ap, subst}
use Rattle.std.specs.Map.{lookup}
use Rattle.ctrl_events.specs.Events.{FileEvents, after_subscribe}
use Rattle.ctrl_events.specs.Heard.{IsHeard, AreHeard}
use Rattle.ctrl_events.proofs.FileLemmas.{seen, found, written, rewritten, accepted, where_accepted, where_refused, after_both, put_for, looked_up_put}
use Rattle.ctrl_events.proofs.HeardLemmas.{more_heard, subscribed_heard}
use Rattle.ctrl_events.proofs.events.Events.subscribe.Goals as goal

pub subscribe-requires : goal.subscribe-requires
subscribe-requires c = subst (λ (f : FileEvents). f.next < 4294967295) (sym (found c.self.inside.files.entries c.args.self.now c.args.fh.0 c.index_mut.result.now c.self.view_is (sym c.index_mut.ensures.value ∙ c.in-Some.ensures.value))) c.requires

pub returns-clause-ok : goal.returns-clause-ok
returns-clause-ok c =
    let there : Some c.index_mut.result.now ≡ lookup (nat_eq c.args.fh.0) c.self.inside.files.entries = sym c.index_mut.ensures.value ∙ c.in-Some.ensures.value in
    where_accepted c.subscribe.result _ _ c.subscribe.ensures.ok (
    written c.self.inside.files.entries _ c.args.self.now c.args.fh.0 c.index_mut.result.now c.subscribe.new.self (after_subscribe c.args.control c.args.flags c.args.changes c.args.payload.now) c.self.view_is there
    (looked_up_put c.self.inside.files.entries c.args.fh.0 c.in-Some.place c.index_mut.result.now c.subscribe.new.self (sym c.in-Some.is ∙ c.get_index_of.ensures.index) there)
    )

pub returns-clause-err : goal.returns-clause-err
returns-clause-err c =
    let there : Some c.index_mut.result.now ≡ lookup (nat_eq c.args.fh.0) c.self.inside.files.entries = sym c.index_mut.ensures.value ∙ c.in-Some.ensures.value in
    where_refused c.subscribe.result _ _ c.subscribe.ensures.err (λ same.
    ap seen (
    put_for c.self.inside.files.entries c.args.fh.0 c.in-Some.place c.subscribe.new.self (sym c.in-Some.is ∙ c.get_index_of.ensures.index)
    ∙ rewritten c.self.inside.files.entries c.args.fh.0 c.index_mut.result.now c.subscribe.new.self there same
    ) ∙ c.self.view_is)

pub invariant_of-self : goal.invariant_of-self
invariant_of-self c = more_heard c.self.inside.files.entries c.self.inside.heard.items c.hear.new.heard.items c.self.invariant c.hear.ensures.kept

pub invariant_of-self-2 : goal.invariant_of-self-2
invariant_of-self-2 c =
    let there : Some c.index_mut.result.now ≡ lookup (nat_eq c.args.fh.0) c.self.inside.files.entries = sym c.index_mut.ensures.value ∙ c.in-Some.ensures.value in
    let marked : IsHeard c.hear.new.heard.items c.in-Some.place c.args.control = accepted c.hear.result _ c.if-is_err.ensures.value c.hear.ensures.heard in
    after_both c.subscribe.result _ _ _ c.subscribe.ensures.ok c.subscribe.ensures.err
    (subscribed_heard c.self.inside.files.entries c.self.inside.heard.items c.hear.new.heard.items c.in-Some.place c.args.control c.args.flags c.args.changes c.args.payload.now c.index_mut.result.now c.subscribe.new.self c.self.invariant c.hear.ensures.kept
    marked (sym c.index_mut.ensures.value))
    (λ same. subst (λ (es : List (ℕ × FileEvents)). AreHeard c.hear.new.heard.items es) (sym (
    put_for c.self.inside.files.entries c.args.fh.0 c.in-Some.place c.subscribe.new.self (sym c.in-Some.is ∙ c.get_index_of.ensures.index)
    ∙ rewritten c.self.inside.files.entries c.args.fh.0 c.index_mut.result.now c.subscribe.new.self there same
    ))
    (more_heard c.self.inside.files.entries c.self.inside.heard.items c.hear.new.heard.items c.self.invariant c.hear.ensures.kept))
