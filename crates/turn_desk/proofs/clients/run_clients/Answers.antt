use Rattle.std.proofs.Common.{rules}
use denote.Param.Send.{sendable}
use Rattle.turn_desk.proofs.Sending.{seat_send, desk_sync}
use Rattle.turn_desk.proofs.clients.run_clients.Goals as goal

pub run_both-first-requires-send-W : goal.run_both-first-requires-send-W
run_both-first-requires-send-W g κs = λ κ lives. search (sendable, seat_send, desk_sync) depth 20

pub run_both-first-requires-send-W-Rest : goal.run_both-first-requires-send-W-Rest
run_both-first-requires-send-W-Rest g κs = λ κ lives. search (sendable, seat_send) depth 20

-- written out so that a wrong body is refused soon (docs/GATE.md)
pub returns-clause-done : goal.returns-clause-done
returns-clause-done g c = search rules

-- written out so that a wrong body is refused soon (docs/GATE.md)
pub returns-clause-kept : goal.returns-clause-kept
returns-clause-kept g c = search rules
