use Rattle.std.proofs.Common.{◌≡◌, ◌<◌, ℕ, Some, length, slice_get}
use Rattle.ctrl_events.specs.Heard.{IsHeard}
use Rattle.ctrl_events.proofs.marks.mark_all.Given as goal

-- the place is marked for the controls so far
abbrev pub invariant-loop-entry : goal.invariant-loop-entry
invariant-loop-entry l = record {
  sized : length l.heard.items ≡ length l.fn.heard.items;
  marked : (i c : ℕ) → i < l.entry-index → slice_get l.controls i ≡ Some (Some c) → c < length l.fn.heard.items → IsHeard l.heard.items l.place c;
  kept : (p c : ℕ) → IsHeard l.fn.heard.items p c → IsHeard l.heard.items p c;
}
