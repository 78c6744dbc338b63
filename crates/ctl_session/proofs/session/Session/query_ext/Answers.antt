use Rattle.std.proofs.Common.{rules, ◌∙◌, [], ℕ, List, Option, ap, subst}
use Rattle.ctrl_types.specs.declared.ids.CtrlId.{CtrlId}
use Rattle.device_history.specs.declared.info.CtrlInfo.{CtrlInfo}
use Rattle.call_structs.specs.Told.{query_ext_ctrl}
use Rattle.ioctl_bytes.specs.declared.layout.v4l2_query_ext_ctrl.TheConstants.{SIZE}
use Rattle.ctl_session.specs.Ids.{queried}
use Rattle.ctl_session.specs.Calls.{Calls, Told, plan_in, query_call, query_meant}
use Rattle.ctl_session.proofs.CallLemmas.{cut, sized_by}
use Rattle.ctl_session.proofs.session.Session.query_ext.Goals as goal

-- src/queries.rt
pub returns-then-arg-ne-SIZE : goal.returns-then-arg-ne-SIZE
returns-then-arg-ne-SIZE g c =
    ((λ info. []), cut g.D.Validates.verdict c.args.self.now SIZE c.args.arg.now (query_call (plan_in c.args.self.now) c.args.handler (λ info. query_ext_ctrl info []) c.args.fh c.args.arg.now) (search rules))

-- src/queries.rt
pub returns : goal.returns
returns g c =
    let v = g.D.Validates.verdict in
    let old = c.args.self.now in
    let new = c.query_ext_of.new.self in
    let bytes = c.args.arg.now in
    let plan = plan_in old in
    let told : Told = (c.query_ext_of.result, c.query_ext_of.new.arg) in
    let put : CtrlInfo → List ℕ = λ info. query_ext_ctrl info (c.query_ext_of.ensures.0 info) in
    let asked = c.queried-asked.ensures ∙ ap (λ p. queried p c.args.handler c.u32_at.result) c.plan.ensures ∙ ap (queried plan c.args.handler) c.u32_at.ensures in (
      c.query_ext_of.ensures.0,
      sized_by v old new SIZE bytes (query_call plan c.args.handler put c.args.fh bytes) told (search rules)
          (subst (λ (asked : Option CtrlId). Calls v old (query_meant put c.args.fh bytes asked) new told) asked c.query_ext_of.ensures.1),
    )
