use Rattle.turn_desk.specs.Views.{IsSeatOf}
use Rattle.seat_tests.proofs.acts.ActsWorker.work.Given as goal

abbrev pub invariant-loop-act : goal.invariant-loop-act
invariant-loop-act g l = record {
  heard : IsSeatOf l.desk l.heard.seat;
}
