use Rattle.ctrl_handlers.proofs.ShownLemmas.{visible_is, visible_differ, found_only}
use Rattle.ctrl_handlers.proofs.laws.shown_controls.Goals as goal

pub returns-clause-shown : goal.returns-clause-shown
returns-clause-shown c = visible_is

pub returns-clause-differ : goal.returns-clause-differ
returns-clause-differ c = visible_differ

pub returns-clause-only : goal.returns-clause-only
returns-clause-only c = found_only
