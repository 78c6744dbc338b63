-- What the seat that closes the desk knows.
use Rattle.std.specs.Prelude.{◌≡◌, ◌≢◌, ℕ, ◌<◌, ◌≤◌, List, ◌++◌, All, Option, Some, None, map, length}
use Rattle.history.specs.declared.entry.Entry.{Entry}
use Rattle.turn_desk.specs.declared.rule.Account.{Account}
use Rattle.turn_desk.specs.declared.rule.View.{View}
use Rattle.turn_desk.specs.declared.rule.TheConstants.{CLOSED}
use Rattle.turn_desk.specs.declared.seat.TheConstants.{MOST_SEATS}
use Rattle.turn_desk.specs.Views.{SeatView, times, once_below}
use Rattle.turn_desk.specs.Rule.{Each, IsAccount, numbers}
use Rattle.turn_desk.specs.Plays.{account, bare}

-- the view has come to have the accounts of these seats too
pub record HasGathered {P S : Type 0} (seats : List (SeatView P S)) (v w : View P S) : Type 0 where
  pub accounts : w.accounts ≡ map (λ s. account s.number s.seen) seats ++ v.accounts
  pub held : w.holding ≡ v.holding
  pub closed : w.closing ≡ v.closing

-- no more than `made` seats were made: it closes the desk and has found so many, or as many were made as can be
abbrev pub MadeAtMost : {P S : Type 0} → ℕ → View P S → Type 0
MadeAtMost made v = made ≢ MOST_SEATS → v.closing ≡ Some made

-- it can end the desk: no more than `made` seats were made, it doesn't hold the turn, and it has as many accounts at least
pub record IsCloser {P S : Type 0} (v : View P S) : Type 0 where
  pub made : ℕ
  pub closes : MadeAtMost made v
  pub unheld : v.holding ≡ None
  pub enough : made ≤ length v.accounts

-- it has opened to close the desk where it found this at the word of seats: another seat's mark, or their count
pub record HasOpened {P S : Type 0} (found : ℕ) (plan : Option P) (v : View P S) : Type 0 where
  pub marked : found ≡ CLOSED → v ≡ bare plan None
  pub counted : found ≢ CLOSED → (found ≤ MOST_SEATS) × (v ≡ bare plan (Some found))

-- it has heard that more seats were made than the number, has forgotten no count, and closes as it did
pub record HasHeard {P S : Type 0} (number : ℕ) (v w : View P S) : Type 0 where
  pub more : number < w.fewest
  pub fewest : v.fewest ≤ w.fewest
  pub closed : w.closing ≡ v.closing

-- it has heard so of each of these seats
pub record HasHeardAll {P S : Type 0} (seats : List (SeatView P S)) (v w : View P S) : Type 0 where
  pub more : All (λ s. s.number < w.fewest) seats
  pub closed : w.closing ≡ v.closing

-- the object that a closed desk leaves, by one that has all accounts
pub record IsEnded {T P S : Type 0} (is_legal : P → List (Entry S) → Type 0) (plan_of : T → P) (steps_of : T → List (Entry S)) (plan : P) (accounts : List (Account S)) (object : T) : Type 0 where
  pub planned : plan_of object ≡ plan
  pub legal : is_legal plan (steps_of object)
  pub whole : Each (IsAccount (steps_of object)) accounts
  pub once : (x : ℕ) → times x (numbers accounts) ≡ once_below x (length accounts)
  pub seats : Each (λ e. e.seat < length accounts) (steps_of object)

-- of all seats those that are no longer left were taken in
pub record IsGathering {P S : Type 0} (all left : List (SeatView P S)) (v w : View P S) : Type 0 where
  pub taken : List (SeatView P S)
  pub split : all ≡ left ++ taken
  pub gathered : HasGathered taken v w
