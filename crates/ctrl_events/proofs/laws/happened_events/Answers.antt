use Rattle.ctrl_events.proofs.PendingLemmas.{kept_raised, kept_unsubscribed, kept_taken}
use Rattle.ctrl_events.proofs.laws.happened_events.Goals as goal

pub returns-clause-raised : goal.returns-clause-raised
returns-clause-raised c = kept_raised

pub returns-clause-unsubscribed : goal.returns-clause-unsubscribed
returns-clause-unsubscribed c = kept_unsubscribed

pub returns-clause-taken : goal.returns-clause-taken
returns-clause-taken c = kept_taken
