use Rattle.device_history.proofs.EventLemmas.{events_add, events_start}
use Rattle.device_history.proofs.RaiseBounds.{next_bound}
use Rattle.device_history.proofs.RaiseLaw.{numbers_left}
use Rattle.device_history.proofs.laws.kept_events.Goals as goal

pub returns-clause-start : goal.returns-clause-start
returns-clause-start c = events_start

pub returns-clause-one_more : goal.returns-clause-one_more
returns-clause-one_more c = events_add

pub returns-clause-few : goal.returns-clause-few
returns-clause-few c = next_bound

pub returns-clause-numbers : goal.returns-clause-numbers
returns-clause-numbers c = numbers_left
