use Rattle.std.proofs.Common.{rules, ◌∙◌, ap}
use Rattle.ioctl_bytes.specs.declared.layout.v4l2_querymenu.TheConstants.{SIZE}
use Rattle.ctl_session.specs.Calls.{Told, item_told, menu_ask, menu_call, plan_in}
use Rattle.ctl_session.proofs.CallLemmas.{asks_made, sized_by}
use Rattle.ctl_session.proofs.session.Session.query_menu.Goals as goal

-- src/queries.rt
pub returns : goal.returns
returns g c =
    let v = g.D.Validates.verdict in
    let told : Told = (c.tell_item.result, c.tell_item.new.arg) in
    let made = c.menu_ask-ask.ensures ∙ ap (λ plan. menu_ask plan c.args.handler c.args.fh c.args.arg.now) c.plan.ensures in
    sized_by v c.args.self.now c.ask-answer.new.self SIZE c.args.arg.now (menu_call (plan_in c.args.self.now) c.args.handler c.args.fh c.args.arg.now) told (search rules)
    (asks_made v c.args.self.now c.ask-answer.new.self c.menu_ask-ask.result (menu_ask (plan_in c.args.self.now) c.args.handler c.args.fh c.args.arg.now) c.ask-answer.result (item_told c.args.arg.now) told
    made c.ask-answer.ensures c.tell_item.ensures)
