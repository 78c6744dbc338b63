use Rattle.std.proofs.Common.{◌≡◌, length}
use Rattle.ctrl_events.proofs.OrderLemmas.{ArePlacedBelow}
use Rattle.ctrl_events.proofs.order.pack.Given as goal

-- the entries so far are placed
abbrev pub invariant-loop-place : goal.invariant-loop-place
invariant-loop-place l = record {
  placed : ArePlacedBelow l.place l.log.items l.places.items;
  bound : length l.places.items ≡ length l.fn.places.items;
}
