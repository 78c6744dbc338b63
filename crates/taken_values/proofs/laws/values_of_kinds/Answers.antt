use Rattle.taken_values.proofs.KindLemmas.{keeps, kept}
use Rattle.taken_values.proofs.laws.values_of_kinds.Goals as goal

pub returns : goal.returns
returns c = λ ctrl v sound. (kept ctrl v sound, keeps ctrl v sound)
