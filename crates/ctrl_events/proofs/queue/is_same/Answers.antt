use Rattle.ctrl_events.proofs.LikeLemmas.{same_waiting}
use Rattle.ctrl_events.proofs.queue.is_same.Goals as goal

pub returns-then-control-other : goal.returns-then-control-other
returns-then-control-other c = same_waiting c.args.control c.args.other c.args.latest.now c.args.latest_of_other.now c.eq.result c.if-control-other.true c.eq.ensures
