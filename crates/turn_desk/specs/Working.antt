-- What a seat has in hand while it holds the turn.
use Rattle.std.specs.Prelude.{◌≡◌, ℕ, List, [], ◌∷◌, ◌++◌, Option, Some, None}
use Rattle.history.specs.declared.entry.Entry.{Entry}
use Rattle.history.specs.Past.{entered}
use Rattle.atomic_table.specs.Table.{Me}
use Rattle.turn_desk.specs.declared.rule.Place.{Place}
use Rattle.turn_desk.specs.declared.rule.View.{View}
use Rattle.turn_desk.specs.Rule.{place_of}
use Rattle.turn_desk.specs.Plays.{account}

-- the seat has the turn, and the object lies in its slot, with just the history's steps
pub record IsAtWork {T P S : Type 0} (plan_of : T → P) (steps_of : T → List (Entry S)) (number : ℕ) (plan : P) (m : Me (Place T) (View P S)) : Type 0 where
  pub object : T
  pub carried : m.1 ≡ (0, place_of object) ∷ []
  pub planned : m.0.plan ≡ Some plan
  pub planned_object : plan_of object ≡ plan
  pub held : m.0.holding ≡ Some (steps_of object)
  pub account : m.0.accounts ≡ account number m.0.seen ∷ []
  pub unclosed : m.0.closing ≡ None

-- the history goes on by a step of this seat, or stays as it is
pub record GoesOn {S : Type 0} (number : ℕ) (before after : List (Entry S)) : Type 0 where
  pub step : Option S
  pub is : after ≡ before ++ entered number step

-- the ask was answered at the history that the holder of the turn had, and the step that was taken, if one was, is entered
pub record HasWorked {P S Ask Answer : Type 0} (is_legal : P → List (Entry S) → Type 0) (answers : P → List (Entry S) → Ask → Answer → Type 0) (taken : P → List (Entry S) → Ask → Answer → Option S)
    (plan : P) (number : ℕ) (ask : Ask) (answer : Answer) (v w : View P S) : Type 0 where
  pub past : List (Entry S)
  pub held : v.holding ≡ Some past
  pub answered : answers plan past ask answer
  pub seen : w.seen ≡ past ++ entered number (taken plan past ask answer)
  pub legal : is_legal plan w.seen
