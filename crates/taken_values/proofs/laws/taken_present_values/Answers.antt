use Rattle.taken_values.proofs.TakenLemmas.{now_kinds, now_taken}
use Rattle.taken_values.proofs.laws.taken_present_values.Goals as goal

pub returns-clause-taken : goal.returns-clause-taken
returns-clause-taken c = now_taken

pub returns-clause-kinds : goal.returns-clause-kinds
returns-clause-kinds c = now_kinds
