use Rattle.std.proofs.Common.{◌≡◌, inl}
use Rattle.history.specs.Past.{past}
use Rattle.device_state.proofs.AnswerLemmas.{get_opening, get_passed, get_read, get_denied, get_unread, get_why}
use Rattle.device_state.proofs.device.Device.get_list.Goals as goal

pub returns-clause-answers : goal.returns-clause-answers
returns-clause-answers g c =
    let device = c.self.inside in
    let plan : c.in-Ok.view.plan ≡ device.plan = rw (← c.self.view_is) at c.in-Ok.ensures.plan in
    rw (← c.self.view_is)
    (get_read g.D.Validates.verdict device.plan (past device.steps.items) device.words.items c.args.fh c.args.which c.args.request c.args.list.now c.in-Ok.view.parts c.in-Ok-read_list.controls
    (rw (← c.self.view_is) at c.in-Ok.ensures.passed) (rw (← c.self.view_is) at c.in-Ok.ensures.view) (rw plan at c.in-Ok-read_list.ensures.ok) (rw plan at c.in-Ok-read_list.ensures.answers))

pub returns-in-Err-read_list-clause-answers : goal.returns-in-Err-read_list-clause-answers
returns-in-Err-read_list-clause-answers g c =
    let device = c.self.inside in
    let plan : c.in-Ok.view.plan ≡ device.plan = rw (← c.self.view_is) at c.in-Ok.ensures.plan in
    rw (← c.self.view_is)
    (get_denied g.D.Validates.verdict device.plan (past device.steps.items) device.words.items c.args.fh c.args.which c.args.request c.args.list.now c.in-Ok.view.parts c.in-Err-read_list.refusal
    (rw (← c.self.view_is) at c.in-Ok.ensures.passed) (rw (← c.self.view_is) at c.in-Ok.ensures.view) (rw plan at c.in-Err-read_list.ensures.err))

pub returns-in-Err-clause-answers : goal.returns-in-Err-clause-answers
returns-in-Err-clause-answers g c =
    rw c.refused.ensures (get_unread g.D.Validates.verdict c.args.self.now.plan (past c.args.self.now.steps) c.args.self.now.words c.args.fh c.args.which c.args.request c.args.list.now c.in-Err.check c.in-Err.ensures.err)

-- why it is refused
pub returns-in-Err-clause-why : goal.returns-in-Err-clause-why
returns-in-Err-clause-why g c =
    rw c.refused.ensures (inl (get_opening g.D.Validates.verdict c.args.self.now.plan (past c.args.self.now.steps) c.args.fh c.args.which c.args.request c.args.list.now _ c.in-Err.ensures.err))

pub returns-in-Err-read_list-clause-why : goal.returns-in-Err-read_list-clause-why
returns-in-Err-read_list-clause-why g c =
    let device = c.self.inside in
    let plan : c.in-Ok.view.plan ≡ device.plan = rw (← c.self.view_is) at c.in-Ok.ensures.plan in
    rw (← c.self.view_is)
    (get_why g.D.Validates.verdict device.plan (past device.steps.items) c.args.fh c.args.which c.args.request c.args.list.now c.in-Ok.view.parts c.in-Err-read_list.refusal
    (rw (← c.self.view_is) at c.in-Ok.ensures.passed) (rw (← c.self.view_is) at c.in-Ok.ensures.view) (rw plan at c.in-Err-read_list.ensures.err))

-- what isn't refused passes all checks
pub returns-clause-passed : goal.returns-clause-passed
returns-clause-passed g c =
    let device = c.self.inside in
    let plan : c.in-Ok.view.plan ≡ device.plan = rw (← c.self.view_is) at c.in-Ok.ensures.plan in
    rw (← c.self.view_is)
    (get_passed g.D.Validates.verdict device.plan (past device.steps.items) c.args.fh c.args.which c.args.request c.args.list.now c.in-Ok.view.parts
    (rw (← c.self.view_is) at c.in-Ok.ensures.passed) (rw (← c.self.view_is) at c.in-Ok.ensures.view) (rw plan at c.in-Ok-read_list.ensures.ok))
