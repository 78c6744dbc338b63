-- A caller's seat at the table.
use Rattle.std.specs.Prelude.{◌≡◌, ℕ, [], ◌∷◌, None}
use Rattle.atomic_table.specs.declared.shared.Seat.{Seat}
use Rattle.turn_desk.specs.declared.rule.Place.{Place}
use Rattle.turn_desk.specs.declared.rule.View.{View}
use Rattle.turn_desk.specs.Views.{SeatView}

abbrev pub seat_view : {T P S : Type 0} → ℕ → Seat (Place T) (View P S) → SeatView P S
seat_view number token = record { desk = token.table_id; plan = token.me.0.plan; number = number; seen = token.me.0.seen }

-- between two calls it holds nothing, and its one account is its own, with all that it has seen
pub record IsSeated {T P S : Type 0} (number : ℕ) (token : Seat (Place T) (View P S)) : Type 0 where
  pub empty : token.me.1 ≡ []
  pub account : token.me.0.accounts ≡ record { number = number; seen = token.me.0.seen } ∷ []
  pub holding : token.me.0.holding ≡ None
  pub closing : token.me.0.closing ≡ None
