use Rattle.std.proofs.Common.{◌∙◌, Option, ap, sym}
use Rattle.std.specs.Option.{option_and_then}
use Rattle.ctrl_events.specs.Events.{EventsData, event_at, events_of}
use Rattle.history_audit.specs.Scratch.{OpenEvents}
use Rattle.history_audit.proofs.ScratchLemmas.{listed_open, unlisted}
use Rattle.history_audit.proofs.progress.Progress.waiting.Goals as goal

-- the file handle is open
pub returns-in-Some : goal.returns-in-Some
returns-in-Some c =
    rw (← c.self.view_is)
    (c.waiting.ensures ∙ ap (λ (d : EventsData). event_at (events_of d c.args.fh.0).waiting c.args.place) c.events.ensures
    ∙ sym (ap (λ (o : Option OpenEvents). option_and_then (λ (e : OpenEvents). event_at e.waiting c.args.place) o) (listed_open c.self.inside.state.events c.self.inside.state.file_handles c.args.fh c.in-Some.field-0 c.in-Some.ensures)))

-- it isn't
pub returns-in-None : goal.returns-in-None
returns-in-None c =
    rw (← c.self.view_is) (sym (ap (λ (o : Option OpenEvents). option_and_then (λ (e : OpenEvents). event_at e.waiting c.args.place) o) (unlisted c.self.inside.state.events c.self.inside.state.file_handles c.args.fh c.in-None.ensures)))
