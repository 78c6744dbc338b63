use Rattle.ctrl_handlers.proofs.LeastLemmas.{least_is, none_is}
use Rattle.ctrl_handlers.proofs.laws.least_numbers.Goals as goal

pub returns-clause-some : goal.returns-clause-some
returns-clause-some c = least_is

pub returns-clause-none : goal.returns-clause-none
returns-clause-none c = none_is
