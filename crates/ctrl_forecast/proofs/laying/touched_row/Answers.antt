-- written out so that a wrong body is refused soon (docs/GATE.md)
use Rattle.std.proofs.Common.{rules}
use Rattle.ctrl_forecast.proofs.laying.touched_row.Goals as goal

pub returns-then-names_grabbed-clause-err : goal.returns-then-names_grabbed-clause-err
returns-then-names_grabbed-clause-err g c = search rules

pub returns-clause-ok : goal.returns-clause-ok
returns-clause-ok g c = search rules

pub returns-clause-err : goal.returns-clause-err
returns-clause-err g c = search rules

pub returns-clause-asked : goal.returns-clause-asked
returns-clause-asked g c = search rules
