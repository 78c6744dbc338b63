use Rattle.std.proofs.Common.{◌≡◌, ◌%◌, ℕ, true, slice_get}
use Rattle.std.specs.Int.{bit_at}
use Rattle.std.specs.Option.{option_map}
use Rattle.ctrl_events.specs.Files.{raised_in_entry}
use Rattle.ctrl_events.specs.Heard.{listens}
use Rattle.ctrl_events.proofs.events.Events.raise.Given as goal

-- the event was raised for the file handles whose bits aren't left, and the bits of those that are subscribed were gathered
abbrev pub invariant-loop-rest : goal.invariant-loop-rest
invariant-loop-rest l = record {
  raised : (p : ℕ) → bit_at l.rest (p % 64) ≡ 0 → slice_get l.self.files p ≡ option_map (raised_in_entry l.control l.changes l.payload (option_map (λ fh. fh.0) l.from)) (slice_get l.fn.self.files p);
  left : (p : ℕ) → bit_at l.rest (p % 64) ≡ 1 → slice_get l.self.files p ≡ slice_get l.fn.self.files p;
  gathered : (p : ℕ) → bit_at l.rest (p % 64) ≡ 0 → listens l.fn.self.files p l.control ≡ true → bit_at l.still (p % 64) ≡ 1;
}

abbrev pub decreases-loop-rest : goal.decreases-loop-rest
decreases-loop-rest l = l.rest
