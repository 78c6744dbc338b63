use Rattle.std.proofs.Common.{refl, arith}
use Rattle.history.specs.Past.{past}
use Rattle.ctrl_types.specs.Classes.{which_of}
use Rattle.device_history.specs.Lists.{meant, which_or}
use Rattle.device_state.specs.Setting.{CanBeSet}
use Rattle.device_state.proofs.BoundLemmas.{set_at_least}
use Rattle.device_state.proofs.HandleLemmas.{handles_asked, asked_all}
use Rattle.device_state.proofs.EnterLemmas.{handles_list}
use Rattle.device_state.proofs.SettingLemmas.{set_lacks}
use Rattle.device_state.proofs.device.Device.set_list.Goals as goal

pub accept_set-requires-clause-settable : goal.accept_set-requires-clause-settable
accept_set-requires-clause-settable g c =
    let sets : CanBeSet g.D.Validates.verdict c.self.inside.plan (past c.self.inside.steps.items) c.args.fh (meant (which_or (which_of c.args.which)) c.args.request) c.in-Ok.touch = c.in-Ok.ensures.ok in
    rw c.spoken.ensures sets

pub returns-in-Err-clause-handles : goal.returns-in-Err-clause-handles
returns-in-Err-clause-handles g c =
    let planned = c.plan_list-planned in
    let device = c.self.inside in
    let at_least = set_at_least g.D.Validates.verdict device.plan (past device.steps.items) c.args.fh c.args.which c.args.request c.args.list.now in
    rw (← c.self.view_is)
    (handles_asked g.D.Validates.verdict _ _ c.new-work.result planned.new.work c.args.seat _ _ refl c.new-work.ensures planned.ensures.told
    (omega (arith, planned.ensures.at_most, at_least)) (λ e. cc) refl c.in-Err.ensures.err)

pub returns-in-Ok-accept_set-clause-handles : goal.returns-in-Ok-accept_set-clause-handles
returns-in-Ok-accept_set-clause-handles g c =
    let planned = c.plan_list-planned in
    rw (← c.self.view_is)
    (handles_list g.D.Validates.verdict g.D.Notifies.told _ _ _ c.new-work.result planned.new.work c.args.seat c.args.fh c.args.which c.args.request c.args.list.now c.in-Ok.touch c.in-Ok-accept_set.controls
    refl c.new-work.ensures planned.ensures.told planned.ensures.at_most c.in-Ok.ensures.ok c.in-Ok.ensures.own_pairs c.in-Ok.ensures.accepted
    c.in-Ok-accept_set.ensures.answers (asked_all planned.new.work.asked _ c.new-work.result c.new-work.ensures c.in-Ok.ensures.asked) (rw c.spoken.ensures at c.in-Ok-accept_set.ensures.ok))

pub returns-in-Err-accept_set-clause-handles : goal.returns-in-Err-accept_set-clause-handles
returns-in-Err-accept_set-clause-handles g c =
    let planned = c.plan_list-planned in
    let device = c.self.inside in
    let at_least = set_at_least g.D.Validates.verdict device.plan (past device.steps.items) c.args.fh c.args.which c.args.request c.args.list.now in
    rw (c.refused.ensures, ← c.self.view_is)
    (handles_asked g.D.Validates.verdict _ _ c.new-work.result planned.new.work c.args.seat _ _ c.in-Err-accept_set.ensures.err c.new-work.ensures planned.ensures.told
    (omega (arith, planned.ensures.at_most, at_least)) (λ e. cc) refl
    (set_lacks g.D.Validates.verdict device.plan (past device.steps.items) device.words.items c.args.fh c.args.which c.args.request c.args.list.now c.in-Ok.touch c.in-Ok.ensures.accepted))
