-- written out so that a wrong body is refused soon (docs/GATE.md)
use Rattle.std.proofs.Common.{rules}
use Rattle.script_replies.proofs.reply.print_fault.Goals as goal

pub returns-in-Some : goal.returns-in-Some
returns-in-Some c = search rules
