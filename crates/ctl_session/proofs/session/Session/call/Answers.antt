use Rattle.std.proofs.Common.{◌∙◌, ℕ, List, [], Option, ap, subst, sym}
use Rattle.history.specs.Past.{past}
use Rattle.ctrl_types.specs.Numbers.{errno_number}
use Rattle.ctrl_types.specs.declared.errno.Errno.TheVariants.{EBADF}
use Rattle.device_history.specs.Handles.{handler_of}
use Rattle.device_history.specs.declared.info.CtrlInfo.{CtrlInfo}
use Rattle.ctl_session.specs.Calls.{Calls, Told, call_by, call_on, refused}
use Rattle.ctl_session.specs.Session.{SessionData}
use Rattle.ctl_session.proofs.CallLemmas.{refuses}
use Rattle.ctl_session.proofs.session.Session.call.Goals as goal

-- no control is named by the call
no_name : CtrlInfo → List ℕ
no_name info = []

-- src/calls.rt
pub returns-in-Some : goal.returns-in-Some
returns-in-Some g c =
    let v = g.D.Validates.verdict in
    let old = c.args.self.now in
    let told : Told = (c.call_on.result, c.call_on.new.arg) in
    let new = c.call_on.new.self in
    let name = c.call_on.ensures.0 in
    let has = sym (sym c.in-Some.is ∙ c.handler_of.ensures ∙ ap (λ device. handler_of (past device.steps) c.args.fh) (c.device.ensures ∙ ap (λ (s : SessionData). s.device) c.begin_call.ensures)) in (
      name,
      subst (λ (h : Option ℕ). Calls v old (call_by v old name c.args.fh c.args.request c.args.number c.args.arg.now h) new told) (sym has)
          (subst (λ (s : SessionData). Calls v s (call_on v s name c.in-Some.handler c.args.fh c.args.request c.args.number c.args.arg.now) new told) c.begin_call.ensures c.call_on.ensures.1),
    )

-- src/calls.rt
pub returns-in-None : goal.returns-in-None
returns-in-None g c =
    let v = g.D.Validates.verdict in
    let old = c.args.self.now in
    let told : Told = (c.number.result, c.args.arg.now) in
    let hasnt = sym (sym c.in-None.is ∙ c.handler_of.ensures ∙ ap (λ device. handler_of (past device.steps) c.args.fh) (c.device.ensures ∙ ap (λ (s : SessionData). s.device) c.begin_call.ensures)) in (
      no_name,
      subst (λ (h : Option ℕ). Calls v old (call_by v old no_name c.args.fh c.args.request c.args.number c.args.arg.now h) c.begin_call.new.self told) (sym hasnt)
          (subst (λ (new : SessionData). Calls v old (refused (errno_number EBADF) c.args.arg.now) new told) (sym c.begin_call.ensures)
          (refuses v old (errno_number EBADF) c.args.arg.now told (ap (λ e. (e, c.args.arg.now)) c.number.ensures))),
    )
