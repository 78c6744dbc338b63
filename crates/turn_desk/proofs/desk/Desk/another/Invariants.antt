use Rattle.std.proofs.Common.{◌≡◌}
use Rattle.turn_desk.proofs.desk.Desk.another.Given as goal

abbrev pub invariant-loop : goal.invariant-loop
invariant-loop g l = (l.token.table_id ≡ l.initial.token.table_id) × (l.token.me ≡ l.initial.token.me)
