-- written out so that a wrong body is refused soon (docs/GATE.md)
use Rattle.std.proofs.Common.{arith}
use Rattle.ctrl_lists.proofs.lists.judge_list.Goals as goal

pub returns-in-Some-clause-at_most : goal.returns-in-Some-clause-at_most
returns-in-Some-clause-at_most g c = omega arith
