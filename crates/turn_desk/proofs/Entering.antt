-- The entry of a step that the object has taken.
use Rattle.std.proofs.Common.{◌≢◌, ℕ, ◌+◌, ◌%◌, ◌<◌, ◌^◌, List, ◌∷◌, length, ap}
use mathlib.Core.Option.{none}
use Rattle.history.specs.declared.entry.Entry.{Entry}
use Rattle.atomic_table.specs.Table.{Me, step, Allows, rest}
use Rattle.turn_desk.specs.declared.rule.Place.{Place}
use Rattle.turn_desk.specs.declared.rule.View.{View}
use Rattle.turn_desk.specs.Rule.{place_of}
use Rattle.turn_desk.specs.Plays.{entering}
use Rattle.turn_desk.specs.Working.{IsAtWork, GoesOn}
use Rattle.turn_desk.proofs.Turns.{Holds, enters}
use Rattle.turn_desk.proofs.Hands.{step_taken}

module _ {T P S : Type 0} (is_legal : P → List (Entry S) → Type 0) (plan_of : T → P) (steps_of : T → List (Entry S)) (plan : P) where
  -- with the grown object in the slot the front may go up by one
  pub enters_grown : (slots id number : ℕ) (p : P) (m : Me (Place T) (View P S)) (w : IsAtWork plan_of steps_of number p m) (object : T) → GoesOn number (steps_of w.object) (steps_of object) → length (steps_of object) ≢ length (steps_of w.object)
      → is_legal p (steps_of object) → length (steps_of object) < 2 ^ 64 → Allows (Holds is_legal plan_of steps_of plan) slots id (m.0, (0, place_of object) ∷ rest m.1) 1 (λ k. (k + 1) % 2 ^ 64) (entering steps_of (step slots 1 1 0 none) (m.0, (0, place_of object) ∷ rest m.1))
  enters_grown slots id number p m w object grown longer lawful short =
      let taken = step_taken number (steps_of w.object) (steps_of object) grown longer in
      enters is_legal plan_of steps_of plan slots id (m.0, (0, place_of object) ∷ rest m.1) object p (steps_of w.object) m.0.seen number taken.0 (ap (λ others. (0, place_of object) ∷ rest others) w.carried) w.planned w.held w.account taken.1 lawful short
