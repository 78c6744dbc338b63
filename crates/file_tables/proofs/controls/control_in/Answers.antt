-- A control with which nothing is wrong is taken as it is described, and another is refused with its first fault.
use Rattle.std.proofs.Common.{Ok, Err, refl, ap, sym, ◌∙◌}
use Rattle.ctrl_settle.specs.Control.{control_of}
use Rattle.ctrl_settle.proofs.WellFormed.{fault_found, nothing_found}
use Rattle.file_tables.specs.Controls.{checked, unless_fault}
use Rattle.file_faults.specs.Faults.{read_then}
use Rattle.file_tables.proofs.controls.control_in.Goals as goal

pub returns-in-Ok-clause-described : goal.returns-in-Ok-clause-described
returns-in-Ok-clause-described c =
    let it = control_of c.in_ok-config.config in
    ap Ok c.in-Ok.ensures.value ∙ sym (ap (unless_fault it) (nothing_found it (c.in-Ok.ensures.ok.0 refl))) ∙ ap (read_then checked) c.in_ok-config.ensures.described

pub returns-in-Err-clause-described : goal.returns-in-Err-clause-described
returns-in-Err-clause-described c =
    let it = control_of c.in_ok-config.config in
    ap Err c.fault_of.ensures ∙ sym (ap (unless_fault it) (fault_found it c.in-Err.fault c.in-Err.ensures.fault)) ∙ ap (read_then checked) c.in_ok-config.ensures.described
