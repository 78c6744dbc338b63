use Rattle.std.proofs.Common.{rules, ◌==◌, ℕ, List, [], refl, subst, sym}
use Rattle.device_history.specs.declared.info.CtrlInfo.{CtrlInfo}
use Rattle.ioctl_bytes.specs.declared.calls.TheConstants as calls
use Rattle.ctl_session.specs.declared.calls.TheConstants.{NO_CALL}
use Rattle.ctl_session.specs.Calls.{Calls, Told, call_on}
use Rattle.ctl_session.proofs.CallLemmas.{if_not, refuses}
use Rattle.ctl_session.proofs.session.Session.call_on.Goals as goal

-- no control is named by the call
no_name : CtrlInfo → List ℕ
no_name info = []

-- src/calls.rt
pub returns-in-3224131109 : goal.returns-in-3224131109
returns-in-3224131109 g c =
    let v = g.D.Validates.verdict in
    let told : Told = (c.query_menu.result, c.query_menu.new.arg) in
    (no_name, subst (λ n. Calls v c.args.self.now (call_on v c.args.self.now no_name c.args.handler c.args.fh c.args.request n c.args.arg.now) c.query_menu.new.self told) (sym c.in-3224131109.is) c.query_menu.ensures)

-- src/calls.rt
pub returns-in-3221771803 : goal.returns-in-3221771803
returns-in-3221771803 g c =
    let v = g.D.Validates.verdict in
    let told : Told = (c.one.result, c.one.new.arg) in
    (no_name, subst (λ n. Calls v c.args.self.now (call_on v c.args.self.now no_name c.args.handler c.args.fh c.args.request n c.args.arg.now) c.one.new.self told) (sym c.in-3221771803.is) c.one.ensures)

-- src/calls.rt
pub returns-in-3221771804 : goal.returns-in-3221771804
returns-in-3221771804 g c =
    let v = g.D.Validates.verdict in
    let told : Told = (c.one-in-3221771804.result, c.one-in-3221771804.new.arg) in
    (no_name, subst (λ n. Calls v c.args.self.now (call_on v c.args.self.now no_name c.args.handler c.args.fh c.args.request n c.args.arg.now) c.one-in-3221771804.new.self told) (sym c.in-3221771804.is) c.one-in-3221771804.ensures)

-- src/calls.rt
pub returns-in-3223344711 : goal.returns-in-3223344711
returns-in-3223344711 g c =
    let v = g.D.Validates.verdict in
    let told : Told = (c.list.result, c.list.new.arg) in
    (no_name, subst (λ n. Calls v c.args.self.now (call_on v c.args.self.now no_name c.args.handler c.args.fh c.args.request n c.args.arg.now) c.list.new.self told) (sym c.in-3223344711.is) c.list.ensures)

-- src/calls.rt
pub returns-in-3223344712 : goal.returns-in-3223344712
returns-in-3223344712 g c =
    let v = g.D.Validates.verdict in
    let told : Told = (c.list-in-3223344712.result, c.list-in-3223344712.new.arg) in
    (no_name, subst (λ n. Calls v c.args.self.now (call_on v c.args.self.now no_name c.args.handler c.args.fh c.args.request n c.args.arg.now) c.list-in-3223344712.new.self told) (sym c.in-3223344712.is) c.list-in-3223344712.ensures)

-- src/calls.rt
pub returns-in-3223344713 : goal.returns-in-3223344713
returns-in-3223344713 g c =
    let v = g.D.Validates.verdict in
    let told : Told = (c.list-in-3223344713.result, c.list-in-3223344713.new.arg) in
    (no_name, subst (λ n. Calls v c.args.self.now (call_on v c.args.self.now no_name c.args.handler c.args.fh c.args.request n c.args.arg.now) c.list-in-3223344713.new.self told) (sym c.in-3223344713.is) c.list-in-3223344713.ensures)

-- src/calls.rt
pub returns-in-1075861082 : goal.returns-in-1075861082
returns-in-1075861082 g c =
    let v = g.D.Validates.verdict in
    let told : Told = (c.subscribe.result, c.subscribe.new.arg) in
    (no_name, subst (λ n. Calls v c.args.self.now (call_on v c.args.self.now no_name c.args.handler c.args.fh c.args.request n c.args.arg.now) c.subscribe.new.self told) (sym c.in-1075861082.is) c.subscribe.ensures)

-- src/calls.rt
pub returns-in-1075861083 : goal.returns-in-1075861083
returns-in-1075861083 g c =
    let v = g.D.Validates.verdict in
    let told : Told = (c.unsubscribe.result, c.unsubscribe.new.arg) in
    (no_name, subst (λ n. Calls v c.args.self.now (call_on v c.args.self.now no_name c.args.handler c.args.fh c.args.request n c.args.arg.now) c.unsubscribe.new.self told) (sym c.in-1075861083.is) c.unsubscribe.ensures)

-- src/calls.rt
pub returns-in-2156418649 : goal.returns-in-2156418649
returns-in-2156418649 g c =
    let v = g.D.Validates.verdict in
    let told : Told = (c.take.result, c.take.new.arg) in
    (no_name, subst (λ n. Calls v c.args.self.now (call_on v c.args.self.now no_name c.args.handler c.args.fh c.args.request n c.args.arg.now) c.take.new.self told) (sym c.in-2156418649.is) c.take.ensures)

-- src/calls.rt
pub returns-in_default : goal.returns-in_default
returns-in_default g c =
    let v = g.D.Validates.verdict in
    let s = c.args.self.now in
    let n = c.args.number in
    let told : Told = (NO_CALL, c.args.arg.now) in (
      no_name,
      if_not v s s (n == calls.VIDIOC_QUERYCTRL) _ _ told (search rules) (
          if_not v s s (n == calls.VIDIOC_QUERY_EXT_CTRL) _ _ told (search rules) (
          if_not v s s (n == calls.VIDIOC_QUERYMENU) _ _ told (search rules) (
          if_not v s s (n == calls.VIDIOC_G_CTRL) _ _ told (search rules) (
          if_not v s s (n == calls.VIDIOC_S_CTRL) _ _ told (search rules) (
          if_not v s s (n == calls.VIDIOC_G_EXT_CTRLS) _ _ told (search rules) (
          if_not v s s (n == calls.VIDIOC_S_EXT_CTRLS) _ _ told (search rules) (
          if_not v s s (n == calls.VIDIOC_TRY_EXT_CTRLS) _ _ told (search rules) (
          if_not v s s (n == calls.VIDIOC_SUBSCRIBE_EVENT) _ _ told (search rules) (
          if_not v s s (n == calls.VIDIOC_UNSUBSCRIBE_EVENT) _ _ told (search rules) (
          if_not v s s (n == calls.VIDIOC_DQEVENT) _ _ told (search rules) (
          refuses v s NO_CALL c.args.arg.now told refl))))))))))),
    )
