use Rattle.std.proofs.Common.{◌≡◌, Option, take, is_some, unwrap_or, ap, sym, ◌∙◌}
use Rattle.history.specs.Past.{past}
use Rattle.req_book.specs.Requests.{RequestData, buffer_in}
use Rattle.device_history.specs.Requests.{asked, buffer}
use Rattle.device_parts.proofs.FitLemmas.{found}
use Rattle.history_audit.proofs.ReadLemmas.{buffer_is, buffer_there}
use Rattle.history_audit.proofs.replay.Replay.queued_frame.Goals as goal

-- it holds a buffer
pub number_of-requires : goal.number_of-requires
number_of-requires g c =
    let r = c.self.inside in
    ap (λ (o : Option RequestData). is_some (buffer_in o)) (found g.D.Validates.verdict r.plan.now (take r.count r.steps.now) c.frames.result.now c.args.request.0 (c.frames.ensures ∙ c.self.invariant.made.frames) c.self.invariant.made.legal)
    ∙ (rw (← c.self.view_is) at c.requires)

-- and is there
pub asked_by-requires : goal.asked_by-requires
asked_by-requires g c = buffer_there g.D.Validates.verdict c.args.self.now.plan (past c.args.self.now.steps) c.args.request.0 c.requires

pub returns : goal.returns
returns g c =
    let r = c.self.inside in
    let number : c.number_of.result ≡ unwrap_or (buffer (past (take r.count r.steps.now)) c.args.request.0) 0 =
    buffer_is g.D.Validates.verdict r.plan.now (past (take r.count r.steps.now)) c.args.request.0 c.number_of.result
    (ap buffer_in (sym (found g.D.Validates.verdict r.plan.now (take r.count r.steps.now) c.frames.result.now c.args.request.0 (c.frames.ensures ∙ c.self.invariant.made.frames) c.self.invariant.made.legal)) ∙ c.number_of.ensures.held) in
    let asks : c.asked_by.result.now ≡ asked r.plan.now (past (take r.count r.steps.now)) c.args.request.0 = rw (← c.self.view_is) at c.asked_by.ensures in
    rw (← c.self.view_is) (rw (number, asks) at c.new.ensures)
