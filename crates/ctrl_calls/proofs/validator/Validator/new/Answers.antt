-- written out so that a wrong body is refused soon (docs/GATE.md)
use Rattle.std.proofs.Common.{rules}
use Rattle.ctrl_calls.proofs.validator.Validator.new.Goals as goal

pub invariant_of-result : goal.invariant_of-result
invariant_of-result g c = search rules

pub returns : goal.returns
returns g c = search rules
