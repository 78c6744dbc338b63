-- written out so that a wrong body is refused soon (docs/GATE.md)
use Rattle.std.proofs.Common.{rules}
use Rattle.ctrl_forecast.proofs.board.Board.begin.Goals as goal

pub returns-clause-first : goal.returns-clause-first
returns-clause-first c = search rules

pub returns-clause-rest : goal.returns-clause-rest
returns-clause-rest c = search rules
