use Rattle.std.specs.Prelude.{◌≡◌}
use Rattle.turn_desk.specs.Views.{IsSeatOf}
use Rattle.turn_desk.specs.Runs.{HasRun}
use Rattle.turn_desk.proofs.clients.run_client.Given as goal

abbrev pub invariant-loop : goal.invariant-loop
invariant-loop g l = record {
  seat : IsSeatOf l.desk l.seat;
  run : HasRun g.T.Served.is_legal g.T.Served.answers g.T.Served.taken l.desk.plan l.fn.party.seat (g.C.Client.transcript l.fn.party.client) l.seat (g.C.Client.transcript l.client);
  task : g.C.Client.task l.client ≡ g.C.Client.task l.fn.party.client;
}
