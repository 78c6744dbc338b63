use Rattle.std.proofs.Common.{◌≡◌, ◌∙◌, ap, get_or, subst, sym}
use Rattle.ctrl_handlers.specs.Plan.{control_in}
use Rattle.device_history.specs.declared.ask.Ask.{Ask}
use Rattle.device_history.specs.declared.ask.Ask.TheVariants.{Unsubscribe}
use Rattle.device_history.specs.Refusals.{Answer}
use Rattle.ctl_session.specs.Calls.{EndedInTurn, plan_in, unsubscribe_ask}
use Rattle.ctl_session.specs.Session.{Asked}
use Rattle.ctl_session.proofs.CallLemmas.{ends_at, ends_behind}
use Rattle.ctl_session.proofs.session.Session.+end_each.Goals as goal

-- src/events.rt
pub returns-in-Ok : goal.returns-in-Ok
returns-in-Ok g t c =
    let v = g.D.Validates.verdict in
    let old = c.args.self.now in
    let made : Ask = Unsubscribe c.args.fh (record { 0 = c.id_at.result }) in
    let is : made ≡ unsubscribe_ask (plan_in old) c.args.fh (get_or c.args.controls.now 0 0) =
    ap (λ n. Unsubscribe c.args.fh (record { 0 = n })) (c.id_at.ensures ∙ ap (λ cs. (control_in cs (get_or c.args.controls.now 0 0)).id.0) (c.controls.ensures.controls ∙ ap (λ plan. plan.controls) c.plan.ensures)) in
    ends_behind v old c.ask.new.self c.end_each.new.self c.args.fh c.args.controls.now made c.in-Ok.field-0 c.end_each.result c.in-len1-up.len_at_least is
    (subst (λ (a : Answer). Asked v old c.ask.new.self made a) c.in-Ok.is c.ask.ensures) c.end_each.ensures

-- src/events.rt
pub returns : goal.returns
returns g t c =
    let v = g.D.Validates.verdict in
    let old = c.args.self.now in
    let made : Ask = Unsubscribe c.args.fh (record { 0 = c.id_at.result }) in
    let is : made ≡ unsubscribe_ask (plan_in old) c.args.fh (get_or c.args.controls.now 0 0) =
    ap (λ n. Unsubscribe c.args.fh (record { 0 = n })) (c.id_at.ensures ∙ ap (λ cs. (control_in cs (get_or c.args.controls.now 0 0)).id.0) (c.controls.ensures.controls ∙ ap (λ plan. plan.controls) c.plan.ensures)) in
    subst (λ n. EndedInTurn v old c.args.fh c.args.controls.now c.ask.new.self n) (sym c.number.ensures)
    (ends_at v old c.ask.new.self c.args.fh c.args.controls.now made c.in-Err.fault c.in-len1-up.len_at_least is
    (subst (λ (a : Answer). Asked v old c.ask.new.self made a) c.in-Err.is c.ask.ensures))
