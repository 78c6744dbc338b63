use Rattle.std.proofs.Common.{rules, take, Option, ap, ◌∙◌}
use Rattle.history.specs.Past.{past}
use Rattle.history_audit.specs.Changing.{lacks}
use Rattle.ctrl_types.specs.declared.check.Check.{Check}
use Rattle.req_book.specs.Requests.{RequestsData, find}
use Rattle.req_book.specs.Refusals.{buffer_check, queue_check, clear_check}
use Rattle.frame_queue.specs.Frames.{FramesData, cancel_check}
use Rattle.device_history.specs.Snapshots.{requests}
use Rattle.device_parts.proofs.FitLemmas.{found}
use Rattle.history_audit.proofs.FollowLemmas.{none_read}
use Rattle.history_audit.proofs.ReadLemmas.{lent}
use Rattle.history_audit.proofs.replay.Replay.is_unrefused.Goals as goal

pub returns-in-Queue : goal.returns-in-Queue
returns-in-Queue g c =
    let r = c.self.inside in
    rw (c.in-Queue.is, ← c.self.view_is)
    (none_read _ c.is_none-in-Queue.result c.is_none-in-Queue.ensures ∙ ap (λ (o : Option Check). lacks o) (c.queue_refusal.ensures ∙ ap queue_check (lent g.D.Validates.verdict r.plan.now (take r.count r.steps.now) c.frames-frames.result.now c.in-Queue.request.0 (c.frames-frames.ensures ∙ c.self.invariant.made.frames) c.self.invariant.made.legal _ c.requests-requests.ensures)))

pub returns-in-Cancel : goal.returns-in-Cancel
returns-in-Cancel g c =
    let r = c.self.inside in
    rw (c.in-Cancel.is, ← c.self.view_is)
    (none_read _ c.is_none-in-Cancel.result c.is_none-in-Cancel.ensures ∙ ap (λ (o : Option Check). lacks o) (c.cancel_refusal.ensures ∙ ap cancel_check (found g.D.Validates.verdict r.plan.now (take r.count r.steps.now) c.frames-frames.result.now c.in-Cancel.request.0 (c.frames-frames.ensures ∙ c.self.invariant.made.frames) c.self.invariant.made.legal)))

pub returns-in-Reinit : goal.returns-in-Reinit
returns-in-Reinit g c =
    let r = c.self.inside in
    rw (c.in-Reinit.is, ← c.self.view_is)
    (none_read _ c.is_none-in-Reinit.result c.is_none-in-Reinit.ensures ∙ ap (λ (o : Option Check). lacks o) (c.clear_refusal.ensures ∙ ap clear_check (lent g.D.Validates.verdict r.plan.now (take r.count r.steps.now) c.frames-frames.result.now c.in-Reinit.request.0 (c.frames-frames.ensures ∙ c.self.invariant.made.frames) c.self.invariant.made.legal _ c.requests-requests.ensures)))

pub returns-in-Free : goal.returns-in-Free
returns-in-Free g c =
    let r = c.self.inside in
    rw (c.in-Free.is, ← c.self.view_is)
    (none_read _ c.is_none-in-Free.result c.is_none-in-Free.ensures ∙ ap (λ (o : Option Check). lacks o) (c.clear_refusal-in-Free.ensures ∙ ap clear_check (lent g.D.Validates.verdict r.plan.now (take r.count r.steps.now) c.frames-frames.result.now c.in-Free.request.0 (c.frames-frames.ensures ∙ c.self.invariant.made.frames) c.self.invariant.made.legal _ c.requests-requests.ensures)))

pub returns-in-Buffer : goal.returns-in-Buffer
returns-in-Buffer g c =
    let r = c.self.inside in
    rw (c.in-Buffer.is, ← c.self.view_is)
    (none_read _ c.is_none-in-Buffer.result c.is_none-in-Buffer.ensures
    ∙ ap (λ (o : Option Check). lacks o)
    (c.buffer_refusal.ensures
    ∙ ap (λ (rs : RequestsData). buffer_check rs.all c.in-Buffer.buffer (find c.requests-requests.result.now.all c.in-Buffer.request.0)) c.requests-requests.ensures
    ∙ ap (λ (f : FramesData). buffer_check f.requests.all c.in-Buffer.buffer (find c.requests-requests.result.now.all c.in-Buffer.request.0)) (c.frames-frames.ensures ∙ c.self.invariant.made.frames)
    ∙ ap (buffer_check (requests g.D.Validates.verdict r.plan.now (past (take r.count r.steps.now))) c.in-Buffer.buffer) (lent g.D.Validates.verdict r.plan.now (take r.count r.steps.now) c.frames-frames.result.now c.in-Buffer.request.0 (c.frames-frames.ensures ∙ c.self.invariant.made.frames) c.self.invariant.made.legal _ c.requests-requests.ensures)))

pub returns-then-is_none : goal.returns-then-is_none
returns-then-is_none g c = search rules
