use Rattle.std.proofs.Common.{◌∙◌, Option, ap, sym}
use Rattle.std.specs.Option.{option_map_or}
use Rattle.ctrl_events.specs.Events.{EventsData, events_of}
use Rattle.history_audit.specs.Scratch.{OpenEvents}
use Rattle.history_audit.proofs.ScratchLemmas.{listed_open, unlisted}
use Rattle.history_audit.proofs.progress.Progress.next_sequence.Goals as goal

-- the file handle is open
pub returns-in-Some : goal.returns-in-Some
returns-in-Some c =
    rw (← c.self.view_is)
    (c.next_sequence.ensures ∙ ap (λ (d : EventsData). (events_of d c.args.fh.0).next) c.events.ensures
    ∙ sym (ap (λ (o : Option OpenEvents). option_map_or (λ (e : OpenEvents). e.next) o 0) (listed_open c.self.inside.state.events c.self.inside.state.file_handles c.args.fh c.in-Some.field-0 c.in-Some.ensures)))

-- it isn't
pub returns-in-None : goal.returns-in-None
returns-in-None c =
    rw (← c.self.view_is) (sym (ap (λ (o : Option OpenEvents). option_map_or (λ (e : OpenEvents). e.next) o 0) (unlisted c.self.inside.state.events c.self.inside.state.file_handles c.args.fh c.in-None.ensures)))
