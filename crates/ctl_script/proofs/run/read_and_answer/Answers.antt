use Rattle.std.proofs.Common.{rules, Err, ap}
use Rattle.ctl_script.proofs.Saying.{ended_unread}
use Rattle.script_replies.specs.declared.outcome.Outcome.TheVariants.{TooLong}
use Rattle.ctl_script.proofs.run.read_and_answer.Goals as goal

pub returns-in-Err-TooLong : goal.returns-in-Err-TooLong
returns-in-Err-TooLong g c =
    ended_unread g.D.Validates.verdict g.D.Notifies.told c.args.known.now (g.R.Read.remaining c.args.reader.now) (g.R.Read.remaining c.read_input.new.reader) c.args.device.now TooLong (g.W.Write.contents c.args.writer.now)
    (c.in-Err-TooLong.ensures.too_long (ap (λ f. Err f) c.in-Err-TooLong.field-0-is))

pub returns-in-Err-Reader : goal.returns-in-Err-Reader
returns-in-Err-Reader g c = search rules
