use Rattle.std.proofs.Common.{◌≡◌, ◌≤◌, length}
use Rattle.history_audit.proofs.MadeLemmas.{at}
use Rattle.history_audit.proofs.auditing.replay_rest.Given as goal

-- the steps so far were replayed, no fewer than at first
abbrev pub invariant-loop : goal.invariant-loop
invariant-loop g l = (l.replay ≡ at l.fn.replay.plan l.steps l.counter) × (length l.fn.replay.steps ≤ l.counter)
