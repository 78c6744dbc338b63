use Rattle.ctrl_settle.proofs.WellFormed.{nothing_found, fault_found, well_formed_where_none, first_fault_where_found}
use Rattle.ctrl_settle.proofs.laws.first_faults.Goals as goal

pub returns-clause-none : goal.returns-clause-none
returns-clause-none c = λ ctrl. (nothing_found ctrl, well_formed_where_none ctrl)

pub returns-clause-found : goal.returns-clause-found
returns-clause-found c = λ ctrl f. (fault_found ctrl f, first_fault_where_found ctrl f)
