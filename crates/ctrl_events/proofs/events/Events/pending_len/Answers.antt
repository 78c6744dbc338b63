use Rattle.std.proofs.Common.{◌∙◌, ap, subst, length}
use Rattle.ctrl_events.specs.Events.{FileEvents, WaitsForSubscribed}
use Rattle.ctrl_events.proofs.FileLemmas.{found, missing}
use Rattle.ctrl_events.proofs.events.Events.pending_len.Goals as goal

pub returns-in-Some-clause-pending : goal.returns-in-Some-clause-pending
returns-in-Some-clause-pending c = c.len.ensures.waiting ∙ ap (λ (f : FileEvents). length f.waiting) (found c.self.inside.files.entries c.args.self.now c.args.fh.0 c.in-Some.queue.now c.self.view_is c.in-Some.ensures.value)

pub returns-in-Some-clause-kept : goal.returns-in-Some-clause-kept
returns-in-Some-clause-kept c = subst WaitsForSubscribed (found c.self.inside.files.entries c.args.self.now c.args.fh.0 c.in-Some.queue.now c.self.view_is c.in-Some.ensures.value) c.len.ensures.kept

pub returns-in-None-clause-pending : goal.returns-in-None-clause-pending
returns-in-None-clause-pending c = ap (λ (f : FileEvents). length f.waiting) (missing c.self.inside.files.entries c.args.self.now c.args.fh.0 c.self.view_is c.in-None.ensures.value)

pub returns-in-None-clause-kept : goal.returns-in-None-clause-kept
returns-in-None-clause-kept c = subst WaitsForSubscribed (missing c.self.inside.files.entries c.args.self.now c.args.fh.0 c.self.view_is c.in-None.ensures.value) tt
