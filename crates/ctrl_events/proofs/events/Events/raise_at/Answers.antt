use Rattle.std.proofs.Common.{◌≡◌, ◌∙◌, ◌<◌, IfSome, slice_get, sym, ap, subst}
use Rattle.std.specs.Option.{option_map}
use Rattle.ctrl_events.specs.Events.{EventsData, is_from}
use Rattle.ctrl_events.specs.Files.{raised_in_entry, changed_at}
use Rattle.ctrl_events.specs.Heard.{listens}
use Rattle.ctrl_events.proofs.HeardLemmas.{value_listens, raised_heard}
use Rattle.ctrl_events.proofs.RaiseLemmas.{raised_at, next_there}
use Rattle.ctrl_events.proofs.events.Events.raise_at.Goals as goal

pub returns-clause-files : goal.returns-clause-files
returns-clause-files c =
    raised_at c.self.inside.files.entries c.args.place c.index_mut.result.now c.raise.new.self c.is_at-is_own.result c.args.control c.args.changes c.args.payload.now (option_map (λ fh. fh.0) c.args.from) (sym c.index_mut.ensures.value)
    (subst (λ (d : EventsData). IfSome (slice_get d.files c.args.place) (λ e. c.is_at-is_own.result ≡ is_from (option_map (λ fh. fh.0) c.args.from) e.0)) (sym c.self.view_is) c.is_at-is_own.ensures) c.raise.ensures.events
    ∙ ap (λ (d : EventsData). changed_at c.args.place (raised_in_entry c.args.control c.args.changes c.args.payload.now (option_map (λ fh. fh.0) c.args.from)) d.files) c.self.view_is

pub returns-clause-own : goal.returns-clause-own
returns-clause-own c = λ there. c.either.ensures.other (
    c.raise.ensures.answer ∙ value_listens c.self.inside.files.entries c.args.place c.index_mut.result.now c.args.control (sym c.index_mut.ensures.value)
    ∙ ap (λ (d : EventsData). listens d.files c.args.place c.args.control) c.self.view_is ∙ there
    )

pub raise-requires : goal.raise-requires
raise-requires c = next_there c.self.inside.files.entries c.args.place 4294967295 c.index_mut.result.now (sym c.index_mut.ensures.value) (subst (λ (d : EventsData). IfSome (slice_get d.files c.args.place) (λ e. e.1.next < 4294967295)) (sym c.self.view_is) c.requires.next)

pub invariant_of-self : goal.invariant_of-self
invariant_of-self c =
    raised_heard c.self.inside.files.entries _ c.self.inside.heard.items c.args.place c.args.control c.args.changes c.args.payload.now (option_map (λ fh. fh.0) c.args.from) c.self.invariant (
    raised_at c.self.inside.files.entries c.args.place c.index_mut.result.now c.raise.new.self c.is_at-is_own.result c.args.control c.args.changes c.args.payload.now (option_map (λ fh. fh.0) c.args.from) (sym c.index_mut.ensures.value)
    (subst (λ (d : EventsData). IfSome (slice_get d.files c.args.place) (λ e. c.is_at-is_own.result ≡ is_from (option_map (λ fh. fh.0) c.args.from) e.0)) (sym c.self.view_is) c.is_at-is_own.ensures) c.raise.ensures.events
    )
