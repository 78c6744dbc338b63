use Rattle.std.proofs.Common.{◌∙◌, ap}
use Rattle.ctrl_events.specs.Events.{FileEvents}
use Rattle.ctrl_events.proofs.FileLemmas.{found, missing}
use Rattle.ctrl_events.proofs.events.Events.next_sequence.Goals as goal

pub returns-in-Some : goal.returns-in-Some
returns-in-Some c = c.next.ensures ∙ ap (λ (f : FileEvents). f.next) (found c.self.inside.files.entries c.args.self.now c.args.fh.0 c.in-Some.queue.now c.self.view_is c.in-Some.ensures.value)

pub returns-in-None : goal.returns-in-None
returns-in-None c = ap (λ (f : FileEvents). f.next) (missing c.self.inside.files.entries c.args.self.now c.args.fh.0 c.self.view_is c.in-None.ensures.value)
