-- the search meets a limit at a text of this length
use Rattle.std.proofs.lemmas.Result.{on_ok_weaker}
use Rattle.script_replies.proofs.Writes.{joined}
use Rattle.script_replies.proofs.reply.print_bad_line.Goals as goal

pub returns : goal.returns
returns c = on_ok_weaker c.put.result (joined _ _ _ _ _ c.in_ok-print_named.ensures) c.put.ensures
