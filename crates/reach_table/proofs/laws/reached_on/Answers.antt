use Rattle.std.proofs.Common.{length}
use Rattle.reach_table.proofs.ReachLemmas.{near_itself, near_least, reached_on}
use Rattle.reach_table.proofs.laws.reached_on.Goals as goal

pub returns-clause-itself : goal.returns-clause-itself
returns-clause-itself c links from = near_itself links from (length links)

pub returns-clause-on : goal.returns-clause-on
returns-clause-on c = reached_on

pub returns-clause-least : goal.returns-clause-least
returns-clause-least c links from holds first on = near_least links from holds first on (length links)
