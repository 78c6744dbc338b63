use Rattle.std.proofs.Common.{rules}
use Rattle.device_history.specs.declared.ask.Ask.TheVariants.{Take}
use Rattle.ioctl_bytes.specs.declared.layout.v4l2_event.TheConstants.{SIZE}
use Rattle.ctl_session.specs.Calls.{take_call, taken_told}
use Rattle.ctl_session.proofs.CallLemmas.{asks, sized_by}
use Rattle.ctl_session.proofs.session.Session.take.Goals as goal

-- src/events.rt
pub returns : goal.returns
returns g c =
    sized_by g.D.Validates.verdict c.args.self.now c.ask-answer.new.self SIZE c.args.arg.now (take_call c.args.fh c.args.arg.now) (c.tell_event.result, c.tell_event.new.arg) (search rules)
    (asks g.D.Validates.verdict c.args.self.now c.ask-answer.new.self (Take c.args.fh) c.ask-answer.result (taken_told c.args.arg.now) (c.tell_event.result, c.tell_event.new.arg)
    c.ask-answer.ensures c.tell_event.ensures)
