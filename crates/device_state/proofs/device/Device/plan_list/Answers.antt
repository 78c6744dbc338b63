use Rattle.std.proofs.Common.{◌≡◌, true, inl, sym, ◌∙◌}
use Rattle.history.specs.Past.{past}
use Rattle.device_state.proofs.AnswerLemmas.{set_accepted, set_denied, set_full, set_full_why, set_opening, set_passed, set_unread, set_why}
use Rattle.device_state.proofs.BoundLemmas.{read_bound}
use Rattle.device_state.proofs.SettingLemmas.{settable, touched_pairs, read_asked}
use Rattle.device_state.proofs.device.Device.plan_list.Goals as goal

-- the first checks refuse it
pub returns-in-Err-clause-err : goal.returns-in-Err-clause-err
returns-in-Err-clause-err g c =
    rw c.whole.ensures (set_unread g.D.Validates.verdict c.args.self.now.plan (past c.args.self.now.steps) c.args.self.now.words c.args.fh c.args.which c.args.request c.args.list.now c.in-Err.check c.in-Err.ensures.err)

pub returns-in-Err-plan_set-clause-err : goal.returns-in-Err-plan_set-clause-err
returns-in-Err-plan_set-clause-err g c =
    let device = c.self.inside in
    let plan : c.in-Ok.view.plan ≡ device.plan = rw (← c.self.view_is) at c.in-Ok.ensures.plan in
    rw (← c.self.view_is)
    (set_denied g.D.Validates.verdict device.plan (past device.steps.items) device.words.items c.args.fh c.args.which c.args.request c.args.list.now c.in-Ok.view.parts c.in-Err-plan_set.refusal
    (rw (← c.self.view_is) at c.in-Ok.ensures.passed) (rw (← c.self.view_is) at c.in-Ok.ensures.view) (rw plan at c.in-Err-plan_set.ensures.err))

pub returns-then-is_full-clause-err : goal.returns-then-is_full-clause-err
returns-then-is_full-clause-err g c =
    let device = c.self.inside in
    let plan : c.in-Ok.view.plan ≡ device.plan = rw (← c.self.view_is) at c.in-Ok.ensures.plan in
    rw (← c.self.view_is, c.whole-then-is_full.ensures)
    (set_full g.D.Validates.verdict device.plan (past device.steps.items) device.words.items c.args.fh c.args.which c.args.request c.args.list.now c.in-Ok.view.parts
    (rw (← c.self.view_is) at c.in-Ok.ensures.passed) (rw (← c.self.view_is) at c.in-Ok.ensures.view) (rw plan at c.in-Ok-plan_set.ensures.ok)
    (sym (rw (← c.self.view_is) at c.is_full.ensures) ∙ c.if-is_full.true))

-- what isn't refused can be set
pub returns-clause-ok : goal.returns-clause-ok
returns-clause-ok g c =
    let device = c.self.inside in
    let plan : c.in-Ok.view.plan ≡ device.plan = rw (← c.self.view_is) at c.in-Ok.ensures.plan in
    rw (← c.self.view_is)
    (settable g.D.Validates.verdict device.plan (past device.steps.items) c.args.fh c.args.which c.args.request c.args.list.now c.in-Ok.view.parts c.in-Ok-plan_set.touch c.self.invariant.plans.is_plan
    (rw (← c.self.view_is) at c.in-Ok.ensures.passed) (rw (← c.self.view_is) at c.in-Ok.ensures.view) (rw plan at c.in-Ok-plan_set.ensures.ok) (rw plan at c.in-Ok-plan_set.ensures.answers) (rw plan at c.in-Ok-plan_set.ensures.touched)
    (sym (rw (← c.self.view_is) at c.is_full.ensures) ∙ c.if-is_full.false))

pub returns-clause-own_pairs : goal.returns-clause-own_pairs
returns-clause-own_pairs g c =
    let device = c.self.inside in
    let plan : c.in-Ok.view.plan ≡ device.plan = rw (← c.self.view_is) at c.in-Ok.ensures.plan in
    rw (← c.self.view_is)
    (touched_pairs g.D.Validates.verdict device.plan (past device.steps.items) c.args.fh c.args.which c.args.request c.args.list.now c.in-Ok.view.parts c.in-Ok-plan_set.touch
    (rw (← c.self.view_is) at c.in-Ok.ensures.view) (rw plan at c.in-Ok-plan_set.ensures.touched))

pub returns-clause-accepted : goal.returns-clause-accepted
returns-clause-accepted g c =
    let device = c.self.inside in
    let plan : c.in-Ok.view.plan ≡ device.plan = rw (← c.self.view_is) at c.in-Ok.ensures.plan in
    rw (← c.self.view_is)
    (set_accepted g.D.Validates.verdict device.plan (past device.steps.items) c.args.fh c.args.which c.args.request c.args.list.now c.in-Ok.view.parts c.in-Ok-plan_set.touch.answers
    (rw (← c.self.view_is) at c.in-Ok.ensures.passed) (rw (← c.self.view_is) at c.in-Ok.ensures.view) (rw plan at c.in-Ok-plan_set.ensures.ok) (rw plan at c.in-Ok-plan_set.ensures.answers)
    (sym (rw (← c.self.view_is) at c.is_full.ensures) ∙ c.if-is_full.false))

pub returns-clause-asked : goal.returns-clause-asked
returns-clause-asked g c =
    let device = c.self.inside in
    let plan : c.in-Ok.view.plan ≡ device.plan = rw (← c.self.view_is) at c.in-Ok.ensures.plan in
    rw (← c.self.view_is)
    (read_asked g.D.Validates.verdict device.plan (past device.steps.items) c.args.fh c.args.which c.args.request c.args.list.now c.in-Ok.view.parts c.plan_set.new.work.asked c.args.work.now.asked
    (rw (← c.self.view_is) at c.in-Ok.ensures.view) (rw plan at c.in-Ok-plan_set.ensures.asked))

-- validators are asked as often as is said
pub returns-in-Err-plan_set-clause-at_most : goal.returns-in-Err-plan_set-clause-at_most
returns-in-Err-plan_set-clause-at_most g c =
    let device = c.self.inside in
    let plan : c.in-Ok.view.plan ≡ device.plan = rw (← c.self.view_is) at c.in-Ok.ensures.plan in
    rw (← c.self.view_is)
    (read_bound g.D.Validates.verdict device.plan (past device.steps.items) c.args.fh c.args.which c.args.request true c.args.list.now c.in-Ok.view.parts c.plan_set.new.work.asked c.args.work.now.asked
    (rw (← c.self.view_is) at c.in-Ok.ensures.passed) (rw (← c.self.view_is) at c.in-Ok.ensures.view) (rw plan at c.plan_set.ensures.at_most))

pub returns-then-is_full-clause-at_most : goal.returns-then-is_full-clause-at_most
returns-then-is_full-clause-at_most g c =
    let device = c.self.inside in
    let plan : c.in-Ok.view.plan ≡ device.plan = rw (← c.self.view_is) at c.in-Ok.ensures.plan in
    rw (← c.self.view_is)
    (read_bound g.D.Validates.verdict device.plan (past device.steps.items) c.args.fh c.args.which c.args.request true c.args.list.now c.in-Ok.view.parts c.plan_set.new.work.asked c.args.work.now.asked
    (rw (← c.self.view_is) at c.in-Ok.ensures.passed) (rw (← c.self.view_is) at c.in-Ok.ensures.view) (rw plan at c.plan_set.ensures.at_most))

pub returns-clause-at_most : goal.returns-clause-at_most
returns-clause-at_most g c =
    let device = c.self.inside in
    let plan : c.in-Ok.view.plan ≡ device.plan = rw (← c.self.view_is) at c.in-Ok.ensures.plan in
    rw (← c.self.view_is)
    (read_bound g.D.Validates.verdict device.plan (past device.steps.items) c.args.fh c.args.which c.args.request true c.args.list.now c.in-Ok.view.parts c.plan_set.new.work.asked c.args.work.now.asked
    (rw (← c.self.view_is) at c.in-Ok.ensures.passed) (rw (← c.self.view_is) at c.in-Ok.ensures.view) (rw plan at c.plan_set.ensures.at_most))

-- why it is refused
pub returns-in-Err-clause-why : goal.returns-in-Err-clause-why
returns-in-Err-clause-why g c =
    rw c.whole.ensures (inl (set_opening g.D.Validates.verdict c.args.self.now.plan (past c.args.self.now.steps) c.args.fh c.args.which c.args.request c.args.list.now _ c.in-Err.ensures.err))

pub returns-in-Err-plan_set-clause-why : goal.returns-in-Err-plan_set-clause-why
returns-in-Err-plan_set-clause-why g c =
    let device = c.self.inside in
    let plan : c.in-Ok.view.plan ≡ device.plan = rw (← c.self.view_is) at c.in-Ok.ensures.plan in
    rw (← c.self.view_is)
    (set_why g.D.Validates.verdict device.plan (past device.steps.items) c.args.fh c.args.which c.args.request c.args.list.now c.in-Ok.view.parts c.in-Err-plan_set.refusal
    (rw (← c.self.view_is) at c.in-Ok.ensures.passed) (rw (← c.self.view_is) at c.in-Ok.ensures.view) (rw plan at c.in-Err-plan_set.ensures.err))

pub returns-then-is_full-clause-why : goal.returns-then-is_full-clause-why
returns-then-is_full-clause-why g c =
    let device = c.self.inside in
    let plan : c.in-Ok.view.plan ≡ device.plan = rw (← c.self.view_is) at c.in-Ok.ensures.plan in
    rw (← c.self.view_is, c.whole-then-is_full.ensures)
    (inl (set_full_why g.D.Validates.verdict device.plan (past device.steps.items) c.args.fh c.args.which c.args.request c.args.list.now c.in-Ok.view.parts
    (rw (← c.self.view_is) at c.in-Ok.ensures.passed) (rw (← c.self.view_is) at c.in-Ok.ensures.view) (rw plan at c.in-Ok-plan_set.ensures.ok)
    (sym (rw (← c.self.view_is) at c.is_full.ensures) ∙ c.if-is_full.true)))

-- what isn't refused passes all checks
pub returns-clause-passed : goal.returns-clause-passed
returns-clause-passed g c =
    let device = c.self.inside in
    let plan : c.in-Ok.view.plan ≡ device.plan = rw (← c.self.view_is) at c.in-Ok.ensures.plan in
    rw (← c.self.view_is)
    (set_passed g.D.Validates.verdict device.plan (past device.steps.items) c.args.fh c.args.which c.args.request c.args.list.now c.in-Ok.view.parts
    (rw (← c.self.view_is) at c.in-Ok.ensures.passed) (rw (← c.self.view_is) at c.in-Ok.ensures.view) (rw plan at c.in-Ok-plan_set.ensures.ok)
    (sym (rw (← c.self.view_is) at c.is_full.ensures) ∙ c.if-is_full.false))
