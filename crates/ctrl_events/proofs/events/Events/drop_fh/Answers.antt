use Rattle.std.proofs.Common.{◌∙◌, ℕ, List, None, is_some, refl, sym, ap, subst}
use Rattle.ctrl_events.specs.Events.{FileEvents, EventsData, no_events, events_of}
use Rattle.ctrl_events.specs.Heard.{AreHeard}
use Rattle.ctrl_events.proofs.FileLemmas.{looked_up, unwritten, none_of}
use Rattle.ctrl_events.proofs.HeardLemmas.{dropped_heard}
use Rattle.ctrl_events.proofs.events.Events.drop_fh.Goals as goal

pub returns : goal.returns
returns c = looked_up c.self.inside.files.entries c.swap_remove.new.self.entries c.args.self.now c.args.fh.0 None (λ f. no_events) c.self.view_is c.swap_remove.ensures.updates.0 refl

pub returns-in_default : goal.returns-in_default
returns-in_default c = λ j. ap (λ (d : EventsData). events_of d j) (sym c.self.view_is)
    ∙ unwritten c.self.inside.files.entries c.args.self.now c.args.fh.0 (λ f. no_events) c.self.view_is (none_of _ (sym (ap is_some c.in_default.is) ∙ c.get_index_of.ensures.found)) refl j

pub invariant_of-self : goal.invariant_of-self
invariant_of-self c = subst (λ (es : List (ℕ × FileEvents)). AreHeard c.hear_last.new.heard.items es) (sym c.swap_remove.ensures.entries) (
    dropped_heard c.self.inside.files.entries c.self.inside.heard.items c.hear_last.new.heard.items c.args.fh.0 c.in-Some.place c.self.invariant c.hear_last.ensures.kept c.hear_last.ensures.last (sym c.in-Some.is ∙ c.get_index_of.ensures.index)
    )
