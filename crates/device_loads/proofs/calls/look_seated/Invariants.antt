use Rattle.turn_desk.specs.Views.{IsSeatOf}
use Rattle.device_loads.proofs.calls.look_seated.Given as goal

abbrev pub invariant-loop : goal.invariant-loop
invariant-loop g l = IsSeatOf l.desk l.seat
