use Rattle.device_history.proofs.RangeLemmas.{ranges_own}
use Rattle.device_history.proofs.laws.present_controls.Goals as goal

pub returns-clause-own : goal.returns-clause-own
returns-clause-own c = ranges_own
