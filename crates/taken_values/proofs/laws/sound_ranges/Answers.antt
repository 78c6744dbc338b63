use Rattle.taken_values.proofs.RangeLemmas.{sound_now}
use Rattle.taken_values.proofs.laws.sound_ranges.Goals as goal

pub returns : goal.returns
returns c = λ verdicts plan older number is legal lt. sound_now verdicts plan older is legal number
