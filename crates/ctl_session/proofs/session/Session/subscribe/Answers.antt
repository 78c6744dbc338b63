use Rattle.std.proofs.Common.{rules, ◌==◌, ◌∙◌, ap}
use Rattle.ctrl_types.specs.Numbers.{errno_number}
use Rattle.ctrl_types.specs.declared.errno.Errno.TheVariants.{EINVAL}
use Rattle.ioctl_bytes.specs.Fields.{u32_in}
use Rattle.ioctl_bytes.specs.declared.calls.TheConstants.{V4L2_EVENT_CTRL}
use Rattle.ioctl_bytes.specs.declared.layout.v4l2_event_subscription.TheConstants as subscription
use Rattle.ctl_session.specs.Calls.{Told, asks_one, errno_told, plan_in, refused, subscribe_ask, subscribe_call}
use Rattle.ctl_session.proofs.CallLemmas.{asks_made, if_so, sized_by}
use Rattle.ctl_session.proofs.session.Session.subscribe.Goals as goal

-- src/events.rt
pub returns : goal.returns
returns g c =
    let v = g.D.Validates.verdict in
    let told : Told = (c.errno_of.result, c.args.arg.now) in
    let plan = plan_in c.args.self.now in
    let ask = subscribe_ask plan c.args.handler c.args.fh c.args.arg.now in
    let made = c.subscribe_ask-ask.ensures ∙ ap (λ p. subscribe_ask p c.args.handler c.args.fh c.args.arg.now) c.plan.ensures in
    sized_by v c.args.self.now c.ask-answer.new.self subscription.SIZE c.args.arg.now (subscribe_call plan c.args.handler c.args.fh c.args.arg.now) told (search rules)
    (if_so v c.args.self.now c.ask-answer.new.self (u32_in subscription.TYPE c.args.arg.now == V4L2_EVENT_CTRL) (asks_one ask (errno_told c.args.arg.now)) (refused (errno_number EINVAL) c.args.arg.now) told (search rules)
    (asks_made v c.args.self.now c.ask-answer.new.self c.subscribe_ask-ask.result ask c.ask-answer.result (errno_told c.args.arg.now) told made c.ask-answer.ensures (ap (λ errno. (errno, c.args.arg.now)) c.errno_of.ensures)))
