use Rattle.std.proofs.Common.{All}
use Rattle.turn_desk.specs.Views.{IsSeatOf}
use Rattle.desk_tests.proofs.seats.make_all.Given as goal

abbrev pub invariant-loop : goal.invariant-loop
invariant-loop g l = record {
  seats : All (IsSeatOf l.desk) l.seats.items;
  last : IsSeatOf l.desk l.last;
}
