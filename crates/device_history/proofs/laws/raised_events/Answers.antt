use Rattle.device_history.proofs.RaiseLaw.{begin_raises, grab_raises, range_raises, set_raises, subscribe_tells}
use Rattle.device_history.proofs.laws.raised_events.Goals as goal

pub returns-clause-set : goal.returns-clause-set
returns-clause-set c = set_raises

pub returns-clause-begin : goal.returns-clause-begin
returns-clause-begin c = begin_raises

pub returns-clause-grab : goal.returns-clause-grab
returns-clause-grab c = grab_raises

pub returns-clause-range : goal.returns-clause-range
returns-clause-range c = range_raises

pub returns-clause-subscription : goal.returns-clause-subscription
returns-clause-subscription c = subscribe_tells
