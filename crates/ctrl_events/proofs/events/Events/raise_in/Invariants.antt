use Rattle.std.proofs.Common.{◌≡◌, ◌<◌, ◌≤◌, ◌%◌, ◌-◌, ℕ, true, length, slice_get}
use Rattle.std.specs.Option.{option_map}
use Rattle.ctrl_events.specs.Files.{raised_in_entry}
use Rattle.ctrl_events.specs.Heard.{listens}
use Rattle.ctrl_events.proofs.events.Events.raise_in.Given as goal

-- the event was raised for the file handles at the places of the bit so far
abbrev pub invariant-loop-place : goal.invariant-loop-place
invariant-loop-place l = record {
  bit : l.place % 64 ≡ l.bit;
  raised : (p : ℕ) → p % 64 ≡ l.bit → p < l.place → slice_get l.self.files p ≡ option_map (raised_in_entry l.control l.changes l.payload (option_map (λ fh. fh.0) l.from)) (slice_get l.fn.self.files p);
  left : (p : ℕ) → (p % 64 ≡ l.bit → l.place ≤ p) → slice_get l.self.files p ≡ slice_get l.fn.self.files p;
  heard : (p : ℕ) → p % 64 ≡ l.bit → p < l.place → listens l.fn.self.files p l.control ≡ true → l.is_heard ≡ true;
}

abbrev pub decreases-loop-place : goal.decreases-loop-place
decreases-loop-place l = length l.fn.self.files - l.place
