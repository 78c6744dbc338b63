use Rattle.std.proofs.Common.{◌≡◌, false, inl}
use Rattle.history.specs.Past.{past}
use Rattle.device_state.proofs.AnswerLemmas.{try_judged, try_denied, try_opening, try_passed, try_unread, try_why}
use Rattle.device_state.proofs.BoundLemmas.{read_bound}
use Rattle.device_state.proofs.SettingLemmas.{read_asked}
use Rattle.device_state.proofs.device.Device.try_list.Goals as goal

pub returns-clause-answers : goal.returns-clause-answers
returns-clause-answers g c =
    let device = c.self.inside in
    let plan : c.in-Ok.view.plan ≡ device.plan = rw (← c.self.view_is) at c.in-Ok.ensures.plan in
    rw (← c.self.view_is, c.into_answers.ensures)
    (try_judged g.D.Validates.verdict device.plan (past device.steps.items) device.words.items c.args.fh c.args.which c.args.request c.args.list.now c.in-Ok.view.parts _
    (rw (← c.self.view_is) at c.in-Ok.ensures.passed) (rw (← c.self.view_is) at c.in-Ok.ensures.view) (rw plan at c.in-Ok-try_list.ensures.ok) (rw plan at c.in-Ok-try_list.ensures.answers))

pub returns-in-Err-try_list-clause-answers : goal.returns-in-Err-try_list-clause-answers
returns-in-Err-try_list-clause-answers g c =
    let device = c.self.inside in
    let plan : c.in-Ok.view.plan ≡ device.plan = rw (← c.self.view_is) at c.in-Ok.ensures.plan in
    rw (← c.self.view_is)
    (try_denied g.D.Validates.verdict device.plan (past device.steps.items) device.words.items c.args.fh c.args.which c.args.request c.args.list.now c.in-Ok.view.parts c.in-Err-try_list.refusal
    (rw (← c.self.view_is) at c.in-Ok.ensures.passed) (rw (← c.self.view_is) at c.in-Ok.ensures.view) (rw plan at c.in-Err-try_list.ensures.err))

pub returns-clause-asked : goal.returns-clause-asked
returns-clause-asked g c =
    let device = c.self.inside in
    let plan : c.in-Ok.view.plan ≡ device.plan = rw (← c.self.view_is) at c.in-Ok.ensures.plan in
    rw (← c.self.view_is)
    (read_asked g.D.Validates.verdict device.plan (past device.steps.items) c.args.fh c.args.which c.args.request c.args.list.now c.in-Ok.view.parts c.try_list.new.work.asked c.args.work.now.asked
    (rw (← c.self.view_is) at c.in-Ok.ensures.view) (rw plan at c.in-Ok-try_list.ensures.asked))

pub returns-in-Err-clause-answers : goal.returns-in-Err-clause-answers
returns-in-Err-clause-answers g c =
    rw c.refused.ensures (try_unread g.D.Validates.verdict c.args.self.now.plan (past c.args.self.now.steps) c.args.self.now.words c.args.fh c.args.which c.args.request c.args.list.now c.in-Err.check c.in-Err.ensures.err)

-- validators are asked as often as is said
pub returns-clause-at_most : goal.returns-clause-at_most
returns-clause-at_most g c =
    let device = c.self.inside in
    let plan : c.in-Ok.view.plan ≡ device.plan = rw (← c.self.view_is) at c.in-Ok.ensures.plan in
    rw (← c.self.view_is)
    (read_bound g.D.Validates.verdict device.plan (past device.steps.items) c.args.fh c.args.which c.args.request false c.args.list.now c.in-Ok.view.parts c.try_list.new.work.asked c.args.work.now.asked
    (rw (← c.self.view_is) at c.in-Ok.ensures.passed) (rw (← c.self.view_is) at c.in-Ok.ensures.view) (rw plan at c.try_list.ensures.at_most))

pub returns-in-Err-try_list-clause-at_most : goal.returns-in-Err-try_list-clause-at_most
returns-in-Err-try_list-clause-at_most g c =
    let device = c.self.inside in
    let plan : c.in-Ok.view.plan ≡ device.plan = rw (← c.self.view_is) at c.in-Ok.ensures.plan in
    rw (← c.self.view_is)
    (read_bound g.D.Validates.verdict device.plan (past device.steps.items) c.args.fh c.args.which c.args.request false c.args.list.now c.in-Ok.view.parts c.try_list.new.work.asked c.args.work.now.asked
    (rw (← c.self.view_is) at c.in-Ok.ensures.passed) (rw (← c.self.view_is) at c.in-Ok.ensures.view) (rw plan at c.try_list.ensures.at_most))

-- why it is refused
pub returns-in-Err-clause-why : goal.returns-in-Err-clause-why
returns-in-Err-clause-why g c =
    rw c.refused.ensures (inl (try_opening g.D.Validates.verdict c.args.self.now.plan (past c.args.self.now.steps) c.args.fh c.args.which c.args.request c.args.list.now _ c.in-Err.ensures.err))

pub returns-in-Err-try_list-clause-why : goal.returns-in-Err-try_list-clause-why
returns-in-Err-try_list-clause-why g c =
    let device = c.self.inside in
    let plan : c.in-Ok.view.plan ≡ device.plan = rw (← c.self.view_is) at c.in-Ok.ensures.plan in
    rw (← c.self.view_is)
    (try_why g.D.Validates.verdict device.plan (past device.steps.items) c.args.fh c.args.which c.args.request c.args.list.now c.in-Ok.view.parts c.in-Err-try_list.refusal
    (rw (← c.self.view_is) at c.in-Ok.ensures.passed) (rw (← c.self.view_is) at c.in-Ok.ensures.view) (rw plan at c.in-Err-try_list.ensures.err))

-- what isn't refused passes all checks
pub returns-clause-passed : goal.returns-clause-passed
returns-clause-passed g c =
    let device = c.self.inside in
    let plan : c.in-Ok.view.plan ≡ device.plan = rw (← c.self.view_is) at c.in-Ok.ensures.plan in
    rw (← c.self.view_is)
    (try_passed g.D.Validates.verdict device.plan (past device.steps.items) c.args.fh c.args.which c.args.request c.args.list.now c.in-Ok.view.parts
    (rw (← c.self.view_is) at c.in-Ok.ensures.passed) (rw (← c.self.view_is) at c.in-Ok.ensures.view) (rw plan at c.in-Ok-try_list.ensures.ok))
