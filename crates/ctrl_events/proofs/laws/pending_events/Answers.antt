use Rattle.ctrl_events.proofs.PendingLemmas.{pending_start, pending_gone, pending_raise, pending_taken}
use Rattle.ctrl_events.proofs.laws.pending_events.Goals as goal

pub returns-clause-start : goal.returns-clause-start
returns-clause-start c = pending_start

pub returns-clause-withdrawn : goal.returns-clause-withdrawn
returns-clause-withdrawn c = pending_gone

pub returns-clause-raised : goal.returns-clause-raised
returns-clause-raised c = pending_raise

pub returns-clause-taken : goal.returns-clause-taken
returns-clause-taken c = pending_taken
