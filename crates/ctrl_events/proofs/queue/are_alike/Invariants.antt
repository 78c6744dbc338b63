use Rattle.std.proofs.Common.{◌≡◌, drop}
use Rattle.std.specs.Prelude.{◌↔◌}
use Rattle.ctrl_events.specs.Order.{logged}
use Rattle.ctrl_events.specs.Queue.{events_to}
use Rattle.ctrl_events.proofs.queue.are_alike.Given as goal

-- the events so far are the same
abbrev pub invariant-loop-entry : goal.invariant-loop-entry
invariant-loop-entry l =
    (events_to l.latest (logged l.log) ≡ events_to l.latest_of_others (logged l.others)) ↔ (events_to l.latest (logged (drop l.entry-index l.log)) ≡ events_to l.latest_of_others (logged (drop l.at l.others)))
