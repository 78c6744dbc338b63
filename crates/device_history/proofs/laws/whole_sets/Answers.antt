use Rattle.device_history.proofs.WholeLemmas.{all_rows, all_answers}
use Rattle.device_history.proofs.laws.whole_sets.Goals as goal

pub returns-clause-rows : goal.returns-clause-rows
returns-clause-rows c = all_rows

pub returns-clause-answers : goal.returns-clause-answers
returns-clause-answers c = all_answers
