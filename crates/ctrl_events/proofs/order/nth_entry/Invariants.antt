use Rattle.std.proofs.Common.{◌≡◌, drop, slice_get}
use Rattle.ctrl_events.specs.Order.{logged}
use Rattle.ctrl_events.proofs.order.nth_entry.Given as goal

-- what is left has the number at what is left of the place
abbrev pub invariant-loop-entry : goal.invariant-loop-entry
invariant-loop-entry l = slice_get (logged l.log) l.place ≡ slice_get (logged (drop l.entry-index l.log)) l.left
