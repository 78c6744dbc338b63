use Rattle.ctrl_settle.proofs.WellFormed.{well_formed_or_first_fault}
use Rattle.ctrl_settle.proofs.laws.well_formed_or_first_fault.Goals as goal

pub returns-clause-cases : goal.returns-clause-cases
returns-clause-cases c = well_formed_or_first_fault
