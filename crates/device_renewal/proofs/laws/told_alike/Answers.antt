use Rattle.device_renewal.proofs.WordLemmas.{same_words}
use Rattle.device_renewal.proofs.laws.told_alike.Goals as goal

pub returns : goal.returns
returns g c verdicts one other k = same_words verdicts g.D.Notifies.told one other k
