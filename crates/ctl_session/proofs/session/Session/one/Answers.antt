use Rattle.std.proofs.Common.{rules, ◌∙◌, ap, subst}
use Rattle.ioctl_bytes.specs.declared.layout.v4l2_control.TheConstants.{SIZE}
use Rattle.ctl_session.specs.Calls.{Calls, Told, one_by, one_call, one_id, plan_in}
use Rattle.ctl_session.specs.Ids.{form_by_id, is_narrow}
use Rattle.ctl_session.proofs.CallLemmas.{sized_by}
use Rattle.ctl_session.proofs.session.Session.one.Goals as goal

-- src/one.rt
pub returns : goal.returns
returns g c =
    let v = g.D.Validates.verdict in
    let told : Told = (c.one_by.result, c.one_by.new.arg) in
    let plan = plan_in c.args.self.now in
    let id = c.one_id-id.ensures ∙ ap (λ p. one_id p c.args.handler c.args.arg.now) c.plan.ensures in
    let narrow = c.is_narrow-narrow.ensures ∙ ap is_narrow (c.form_of.ensures.form ∙ ap (λ p. form_by_id p c.args.handler c.one_id-id.result) c.plan-2.ensures ∙ ap (form_by_id plan c.args.handler) id) in
    sized_by v c.args.self.now c.one_by.new.self SIZE c.args.arg.now (one_call c.args.sets plan c.args.handler c.args.fh c.args.arg.now) told (search rules)
    (subst (λ i. Calls v c.args.self.now (one_by c.args.sets c.args.fh c.args.arg.now i (is_narrow (form_by_id plan c.args.handler (one_id plan c.args.handler c.args.arg.now)))) c.one_by.new.self told) id
    (subst (λ n. Calls v c.args.self.now (one_by c.args.sets c.args.fh c.args.arg.now c.one_id-id.result n) c.one_by.new.self told) narrow c.one_by.ensures))
