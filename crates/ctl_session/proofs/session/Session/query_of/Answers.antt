use Rattle.std.proofs.Common.{◌∙◌, [], ℕ, List, Option, ap, subst, sym}
use Rattle.ctrl_types.specs.Numbers.{errno_number}
use Rattle.ctrl_types.specs.declared.errno.Errno.TheVariants.{EINVAL}
use Rattle.ctrl_types.specs.declared.ids.CtrlId.{CtrlId}
use Rattle.device_history.specs.declared.ask.Ask.TheVariants.{Query}
use Rattle.device_history.specs.declared.info.CtrlInfo.{CtrlInfo}
use Rattle.call_structs.specs.Told.{queryctrl}
use Rattle.ctl_session.specs.Calls.{Calls, Told, info_put, query_meant, query_told}
use Rattle.ctl_session.proofs.CallLemmas.{asks, refuses}
use Rattle.ctl_session.proofs.session.Session.query_of.Goals as goal

-- src/queries.rt
pub returns-in-Some : goal.returns-in-Some
returns-in-Some g c =
    let v = g.D.Validates.verdict in
    let old = c.args.self.now in
    let new = c.ask-answer.new.self in
    let bytes = c.args.arg.now in
    let told : Told = (c.tell_query.result, c.tell_query.new.arg) in
    let put : CtrlInfo → List ℕ = λ info. queryctrl info (c.tell_query.ensures.0 info) in (
      c.tell_query.ensures.0,
      subst (λ (asked : Option CtrlId). Calls v old (query_meant put c.args.fh bytes asked) new told) (sym c.in-Some.is)
          (asks v old new (Query c.args.fh c.in-Some.id) c.ask-answer.result (query_told put bytes) told c.ask-answer.ensures
          (c.tell_query.ensures.1 ∙ ap (info_put put bytes) c.info_told.ensures)),
    )

-- src/queries.rt
pub returns-in-None : goal.returns-in-None
returns-in-None g c =
    let v = g.D.Validates.verdict in
    let bytes = c.args.arg.now in
    let told : Told = (c.number.result, bytes) in (
      (λ info. []),
      subst (λ (asked : Option CtrlId). Calls v c.args.self.now (query_meant (λ info. queryctrl info []) c.args.fh bytes asked) c.args.self.now told) (sym c.in-None.is)
          (refuses v c.args.self.now (errno_number EINVAL) bytes told (ap (λ e. (e, bytes)) c.number.ensures)),
    )
