use Rattle.std.proofs.Common.{rules, ◌==◌, if◌then◌else◌, ap}
use Rattle.device_history.specs.declared.ask.Ask.{Ask}
use Rattle.device_history.specs.declared.ask.Ask.TheVariants.{Unsubscribe}
use Rattle.ioctl_bytes.specs.Fields.{u32_in}
use Rattle.ioctl_bytes.specs.declared.calls.TheConstants.{V4L2_EVENT_ALL, V4L2_EVENT_CTRL}
use Rattle.ioctl_bytes.specs.declared.layout.v4l2_event_subscription.TheConstants.{ID, SIZE, TYPE}
use Rattle.ctl_session.specs.Calls.{Told, asks_one, ending_all, errno_told, plan_in, refused, subscribed_controls, unsubscribe_call}
use Rattle.ctl_session.proofs.CallLemmas.{asks_made, if_so, sized_by}
use Rattle.ctl_session.proofs.session.Session.unsubscribe.Goals as goal

-- src/events.rt
pub returns-in-3 : goal.returns-in-3
returns-in-3 g c =
    let v = g.D.Validates.verdict in
    let old = c.args.self.now in
    let new = c.ask-answer.new.self in
    let bytes = c.args.arg.now in
    let kind = u32_in TYPE bytes in
    let told : Told = (c.errno_of.result, bytes) in
    let ask : Ask = Unsubscribe c.args.fh (record { 0 = u32_in ID bytes }) in
    let made : Ask = Unsubscribe c.args.fh (record { 0 = c.u32_at-in-3.result }) in
    let others = if kind == V4L2_EVENT_ALL then ending_all (plan_in old) c.args.fh (subscribed_controls old.device c.args.fh) bytes else refused 0 bytes in
    sized_by v old new SIZE bytes (unsubscribe_call old c.args.fh bytes) told (search rules)
    (if_so v old new (kind == V4L2_EVENT_CTRL) (asks_one ask (errno_told bytes)) others told (search rules)
    (asks_made v old new made ask c.ask-answer.result (errno_told bytes) told (ap (λ n. Unsubscribe c.args.fh (record { 0 = n })) c.u32_at-in-3.ensures) c.ask-answer.ensures
    (ap (λ errno. (errno, bytes)) c.errno_of.ensures)))
