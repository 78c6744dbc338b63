use Rattle.std.proofs.Common.{◌∙◌, ap}
use Rattle.ctrl_events.specs.Events.{FileEvents, event_at}
use Rattle.ctrl_events.proofs.FileLemmas.{found, missing}
use Rattle.ctrl_events.proofs.events.Events.waiting.Goals as goal

pub returns-in-Some : goal.returns-in-Some
returns-in-Some c = c.event_at.ensures ∙ ap (λ (f : FileEvents). event_at f.waiting c.args.place) (found c.self.inside.files.entries c.args.self.now c.args.fh.0 c.in-Some.queue.now c.self.view_is c.in-Some.ensures.value)

pub returns-in-None : goal.returns-in-None
returns-in-None c = ap (λ (f : FileEvents). event_at f.waiting c.args.place) (missing c.self.inside.files.entries c.args.self.now c.args.fh.0 c.self.view_is c.in-None.ensures.value)
