use Rattle.std.proofs.Common.{All}
use Rattle.turn_desk.specs.Views.{IsSeatOf}
use Rattle.device_loads.proofs.ways.add_tasks.Given as goal

abbrev pub invariant-loop : goal.invariant-loop
invariant-loop g l = record {
  first : IsSeatOf l.desk l.first;
  tasks : All (λ s. IsSeatOf s.desk.now s.seat) l.tasks.items;
}
