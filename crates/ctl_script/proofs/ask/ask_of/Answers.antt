-- written out so that a wrong body is refused soon (docs/GATE.md)
use Rattle.std.proofs.Common.{rules}
use Rattle.ctl_script.proofs.ask.ask_of.Goals as goal

pub returns : goal.returns
returns c = search rules
