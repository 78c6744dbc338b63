use Rattle.std.proofs.Common.{sym}
use Rattle.history_audit.proofs.MadeLemmas.{taken_many}
use Rattle.history_audit.proofs.replay.Replay.replayed.Goals as goal

-- those that were replayed are the first ones
pub returns-clause-count : goal.returns-clause-count
returns-clause-count g c = rw (← c.self.view_is) (sym (taken_many c.self.inside.steps.now c.self.inside.count c.self.invariant.within))
