use Rattle.ctl_script.proofs.Boards.{board_ended, board_shown}
use Rattle.ctl_script.proofs.board.read_and_print.Goals as goal

pub returns-in-Finished : goal.returns-in-Finished
returns-in-Finished g c =
    let written = g.W.Write.contents in
    let said = c.in-Finished.ensures in
    board_shown g.D.Validates.verdict g.D.Notifies.told c.args.known.now (g.R.Read.remaining c.args.reader.now) (g.R.Read.remaining c.read_and_answer.new.reader) c.args.device.now c.print_frames.new.device c.read_and_answer.new.device
    said.0 c.print_frames.result (written c.args.writer.now) (written c.print_frames.new.writer) said.1 c.print_frames.ensures.device c.print_frames.ensures.shown

-- the script ended otherwise
pub returns-in_default : goal.returns-in_default
returns-in_default g c =
    let said = c.read_and_answer.ensures in
    board_ended g.D.Validates.verdict g.D.Notifies.told c.args.known.now (g.R.Read.remaining c.args.reader.now) (g.R.Read.remaining c.read_and_answer.new.reader) c.args.device.now c.read_and_answer.new.device
    said.0 c.read_and_answer.result (g.W.Write.contents c.args.writer.now) c.in_default.not-Finished said.1
