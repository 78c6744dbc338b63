use Rattle.std.proofs.Common.{◌≡◌, ℕ, ◌<◌, get_or}
use Rattle.turn_desk.proofs.desk.hear_all.Given as goal

abbrev pub invariant-loop-seat : goal.invariant-loop-seat
invariant-loop-seat g l = record {
  desk : l.closer.table_id ≡ l.initial.closer.table_id;
  seats : l.seat-items ≡ l.initial.seat-items;
  closed : l.closer.me.0.closing ≡ l.initial.closer.me.0.closing;
  more : (k : ℕ) (d : _) → k < l.seat-index → (get_or l.seat-items k d).number < l.closer.me.0.fewest;
}
