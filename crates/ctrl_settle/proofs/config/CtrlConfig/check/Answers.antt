-- written out so that a wrong body is refused soon (docs/GATE.md)
use Rattle.std.proofs.Common.{rules}
use Rattle.ctrl_settle.proofs.config.CtrlConfig.check.Goals as goal

pub returns : goal.returns
returns c = search rules
