use Rattle.std.proofs.Common.{[]}
use Rattle.script_replies.specs.declared.outcome.Outcome.TheVariants.{Memory}
use Rattle.ctl_script.proofs.Boards.{board_ended, board_told, goes_board, memory_not_finished}
use Rattle.ctl_script.proofs.Saying.{ended_unread}
use Rattle.ctl_script.proofs.board.run_board.Goals as goal

-- no room for a line
pub returns-in_default-clause-board : goal.returns-in_default-clause-board
returns-in_default-clause-board g c =
    let v = g.D.Validates.verdict in
    let t = g.D.Notifies.told in
    let unread = g.R.Read.remaining c.args.reader.now in
    let written = g.W.Write.contents c.args.writer.now in
    let none = ended_unread v t c.args.known.now unread unread c.args.device Memory written tt in
    board_told v t c.args.known.now unread unread c.args.device c.args.device Memory c.without_line.result written written (g.W.Write.contents c.without_line.new.writer) c.without_line.ensures.memory c.without_line.ensures.line
    (board_ended v t c.args.known.now unread unread c.args.device c.args.device none.0 Memory written memory_not_finished none.1)

pub returns-clause-board : goal.returns-clause-board
returns-clause-board g c =
    let written = g.W.Write.contents in
    let printed = c.read_and_print-outcome in
    board_told g.D.Validates.verdict g.D.Notifies.told c.args.known.now (g.R.Read.remaining c.args.reader.now) (g.R.Read.remaining printed.new.reader) c.args.device printed.new.device printed.result c.with_line.result
    (written c.args.writer.now) (written printed.new.writer) (written c.with_line.new.writer) c.with_line.ensures.same c.with_line.ensures.line printed.ensures

pub returns-clause-device : goal.returns-clause-device
returns-clause-device g c =
    let written = g.W.Write.contents in
    let printed = c.read_and_print-outcome in
    goes_board g.D.Validates.verdict g.D.Notifies.told c.args.known.now (g.R.Read.remaining c.args.reader.now) (g.R.Read.remaining printed.new.reader) c.args.device printed.new.device printed.result []
    (written c.args.writer.now) (written printed.new.writer) printed.ensures
