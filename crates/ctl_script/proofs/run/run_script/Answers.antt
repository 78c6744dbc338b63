use Rattle.script_replies.specs.declared.outcome.Outcome.TheVariants.{Memory}
use Rattle.ctl_script.proofs.Saying.{ended_unread, goes_ended, told_ended}
use Rattle.ctl_script.proofs.run.run_script.Goals as goal

-- no room for a line
pub returns-in_default-clause-ran : goal.returns-in_default-clause-ran
returns-in_default-clause-ran g c =
    let v = g.D.Validates.verdict in
    let t = g.D.Notifies.told in
    let unread = g.R.Read.remaining c.args.reader.now in
    let written = g.W.Write.contents c.args.writer.now in
    told_ended v t c.args.known.now unread unread c.args.device c.args.device Memory c.without_line.result written written (g.W.Write.contents c.without_line.new.writer)
    (ended_unread v t c.args.known.now unread unread c.args.device Memory written tt) c.without_line.ensures.memory c.without_line.ensures.line

pub returns-clause-ran : goal.returns-clause-ran
returns-clause-ran g c =
    let written = g.W.Write.contents in
    told_ended g.D.Validates.verdict g.D.Notifies.told c.args.known.now (g.R.Read.remaining c.args.reader.now) (g.R.Read.remaining c.read_and_answer-outcome.new.reader) c.args.device c.read_and_answer-outcome.new.device
    c.read_and_answer-outcome.result c.with_line.result (written c.args.writer.now) (written c.read_and_answer-outcome.new.writer) (written c.with_line.new.writer)
    c.read_and_answer-outcome.ensures c.with_line.ensures.same c.with_line.ensures.line

pub returns-clause-device : goal.returns-clause-device
returns-clause-device g c =
    let said = c.read_and_answer-outcome.ensures in
    goes_ended g.D.Validates.verdict g.D.Notifies.told c.args.known.now (g.R.Read.remaining c.args.reader.now) (g.R.Read.remaining c.read_and_answer-outcome.new.reader) c.args.device c.read_and_answer-outcome.new.device
    said.0 c.read_and_answer-outcome.result said.1
