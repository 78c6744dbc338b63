use Rattle.device_history.proofs.WordLemmas.{word_stays}
use Rattle.device_history.proofs.laws.told_words.Goals as goal

pub returns : goal.returns
returns g c = word_stays g.D.Notifies.told
