-- The rule of the desk's table: what its words, its slot and its seats say of one legal history at each moment.
-- Word 0 is the turn, 0 while nobody has it. Word 1, the front, is the length of the history. Word 2 is how many seats were made, or the mark of a desk that is being closed. The one slot has the object while nobody has the turn.
use Rattle.std.specs.Prelude.{◌≡◌, ℕ, zero, suc, ◌+◌, ◌<◌, ◌≤◌, List, [], ◌∷◌, Option, Some, None, map, length}
use mathlib.Core.Option.{Option as Maybe, some}
use lib.ListN.{get_elem?}
use Rattle.history.specs.declared.entry.Entry.{Entry}
use Rattle.history.specs.Past.{own}
use Rattle.history.specs.Prefix.{IsPrefix}
use Rattle.atomic_table.specs.Table.{State}
use Rattle.turn_desk.specs.declared.rule.Account.{Account}
use Rattle.turn_desk.specs.declared.rule.Place.{Place}
use Rattle.turn_desk.specs.declared.rule.View.{View}
use Rattle.turn_desk.specs.declared.rule.TheConstants.{CLOSED}
use Rattle.turn_desk.specs.declared.seat.TheConstants.{MOST_SEATS}
use Rattle.turn_desk.specs.Views.{times, once_below}

abbrev pub total : {V : Type 0} → (V → ℕ) → List V → ℕ
total f [] = 0
total f (v ∷ vs) = f v + total f vs

-- P holds of each
abbrev pub Each : {A : Type 0} → (A → Type 0) → List A → Type 0
Each P [] = Unit {0}
Each P (x ∷ xs) = P x × Each P xs

abbrev pub count_some : {A : Type 0} → Option A → ℕ
count_some None = 0
count_some (Some x) = 1

abbrev pub is_taken : ℕ → ℕ
is_taken zero = 0
is_taken (suc k) = 1

-- word 2, with this many seats made, by how many are closing the desk
abbrev pub made_word : ℕ → ℕ → ℕ
made_word count zero = count
made_word count (suc k) = CLOSED

module _ {S : Type 0} where
  abbrev pub numbers : List (Account S) → List ℕ
  numbers accounts = map (λ a. a.number) accounts

  -- the account has seen a beginning of the history, with all entries of its number
  pub record IsAccount (history : List (Entry S)) (a : Account S) : Type 0 where
    pub prefix : IsPrefix a.seen history
    pub whole : own a.number history ≡ own a.number a.seen

module _ {P S : Type 0} where
  abbrev pub holds_turn : View P S → ℕ
  holds_turn v = count_some v.holding

  abbrev pub closes : View P S → ℕ
  closes v = count_some v.closing

  abbrev pub accounts_of : View P S → ℕ
  accounts_of v = length v.accounts

  abbrev pub times_in : ℕ → View P S → ℕ
  times_in x v = times x (numbers v.accounts)

  -- what the rule says of one view
  pub record Fits (plan : P) (history : List (Entry S)) (count : ℕ) (v : View P S) : Type 0 where
    pub planned : (p : P) → v.plan ≡ Some p → p ≡ plan
    pub seen : IsPrefix v.seen history
    pub heard : IsPrefix v.heard history
    pub accounts : Each (IsAccount history) v.accounts
    pub holding : (h : List (Entry S)) → v.holding ≡ Some h → (h ≡ history) × (0 < length v.accounts)
    pub closing : (n : ℕ) → v.closing ≡ Some n → n ≡ count
    pub fewest : v.fewest ≤ count

-- the slot's value with this object
abbrev pub place_of : {T : Type 0} → T → Place T
place_of d = record { object = d }

module _ {T P S : Type 0} where
  -- the slot has the object, with just these steps
  abbrev pub IsHome : (T → P) → (T → List (Entry S)) → P → List (Entry S) → List (Maybe (Place T)) → Type 0
  IsHome plan_of steps_of plan history homes = (d : T) × (get_elem? homes 0 ≡ some (some (place_of d))) × (plan_of d ≡ plan) × (steps_of d ≡ history)

  -- The running rule: there is one legal history that the words, the slot and all views fit.
  pub record IsRunningRule (is_legal : P → List (Entry S) → Type 0) (plan_of : T → P) (steps_of : T → List (Entry S)) (plan : P) (s : State (Place T) (View P S)) : Type 0 where
    pub history : List (Entry S)
    pub turn : ℕ
    pub count : ℕ
    pub closers : ℕ
    pub words : s.words ≡ turn ∷ length history ∷ made_word count closers ∷ []
    pub legal : is_legal plan history
    pub home : turn ≡ 0 → IsHome plan_of steps_of plan history s.homes
    pub holders : total holds_turn s.views ≡ is_taken turn
    pub closed_by : total closes s.views ≡ closers
    pub one_closer : closers ≤ 1
    pub few : count ≤ MOST_SEATS
    pub once : (x : ℕ) → total (times_in x) s.views ≡ once_below x count
    pub accounts : total accounts_of s.views ≡ count
    pub seats : Each (λ e. e.seat < count) history
    pub each : (j : ℕ) (v : View P S) → get_elem? s.views j ≡ some v → Fits plan history count v
