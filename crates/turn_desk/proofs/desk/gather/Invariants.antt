use Rattle.std.proofs.Common.{◌≡◌, All}
use Rattle.turn_desk.specs.Ending.{IsGathering}
use Rattle.turn_desk.proofs.desk.gather.Given as goal

abbrev pub invariant-loop-seat : goal.invariant-loop-seat
invariant-loop-seat g l = record {
  desk : l.closer.table_id ≡ l.initial.closer.table_id;
  seats : All (λ s. s.desk ≡ l.shared.table_id) l.seats.items;
  gathered : IsGathering l.initial.seats.items l.seats.items l.initial.closer.me.0 l.closer.me.0;
}

abbrev pub decreases-loop-seat : goal.decreases-loop-seat
decreases-loop-seat g l = goal.left-loop-seat g l
