use Rattle.device_history.proofs.AskingLemmas.{may_decided}
use Rattle.device_history.proofs.laws.deciding_asks.Goals as goal

pub returns-clause-needed : goal.returns-clause-needed
returns-clause-needed c = may_decided
