use Rattle.std.proofs.Common.{◌∙◌, ap, length}
use Rattle.ctrl_events.specs.Events.{FileEvents}
use Rattle.ctrl_events.proofs.AlikeLemmas.{both_kept, none_own, none_other}
use Rattle.ctrl_events.proofs.FileLemmas.{found, missing}
use Rattle.ctrl_events.proofs.events.Events.waits_like.Goals as goal

pub returns-in-Some-get : goal.returns-in-Some-get
returns-in-Some-get c = both_kept _ _ _ _ _
    (ap (λ (f : FileEvents). f.waiting) (found c.self.inside.files.entries c.args.self.now c.args.fh.0 c.in-Some.queue.now c.self.view_is c.in-Some.ensures.value))
    (ap (λ (f : FileEvents). f.waiting) (found c.other.inside.files.entries c.args.other.now c.args.fh.0 c.in-Some-get.others.now c.other.view_is c.in-Some-get.ensures.value)) c.waits_like.ensures

pub returns-in-None-get : goal.returns-in-None-get
returns-in-None-get c = none_other _ _ c.len.result
    (ap (λ (f : FileEvents). f.waiting) (missing c.other.inside.files.entries c.args.other.now c.args.fh.0 c.other.view_is c.in-None-get.ensures.value))
    (c.len.ensures.waiting ∙ ap (λ (f : FileEvents). length f.waiting) (found c.self.inside.files.entries c.args.self.now c.args.fh.0 c.in-Some.queue.now c.self.view_is c.in-Some.ensures.value))

pub returns-in-None : goal.returns-in-None
returns-in-None c = none_own _ _ c.pending_len.result
    (ap (λ (f : FileEvents). f.waiting) (missing c.self.inside.files.entries c.args.self.now c.args.fh.0 c.self.view_is c.in-None.ensures.value))
    c.pending_len.ensures.pending
