-- What contracts see of a seat and of a desk.
use Rattle.std.specs.Prelude.{◌≡◌, ℕ, ◌+◌, ◌<◌, ◌≤◌, List, [], ◌∷◌, All, map, length, Option, Some, nat_eq, nat_lt, if◌then◌else◌}
use Rattle.history.specs.declared.entry.Entry.{Entry}
use Rattle.history.specs.Past.{own}
use Rattle.history.specs.Prefix.{IsPrefix}
use Rattle.atomic_table.specs.Seated.{TableId}
use Rattle.turn_desk.specs.declared.seat.TheConstants.{MOST_SEATS}

-- a seat: its desk, that desk's plan, its number, and the history that it has seen
pub record SeatView (P S : Type 0) : Type 0 where
  pub desk : TableId
  pub plan : Option P
  pub number : ℕ
  pub seen : List (Entry S)

-- a desk: which it is, and what is fixed for good
pub record DeskView (P : Type 0) : Type 0 where
  pub id : TableId
  pub plan : P

-- the seat was made by this desk
pub record IsSeatOf {P S : Type 0} (desk : DeskView P) (seat : SeatView P S) : Type 0 where
  pub made_by : seat.desk ≡ desk.id
  pub planned : seat.plan ≡ Some desk.plan

-- the same seat, whatever it has seen by then
pub record IsSameSeat {P S : Type 0} (before after : SeatView P S) : Type 0 where
  pub desk : after.desk ≡ before.desk
  pub plan : after.plan ≡ before.plan
  pub number : after.number ≡ before.number

-- the same seat, which has seen no less
pub record StaysAt {P S : Type 0} (before after : SeatView P S) : Type 0 where
  pub same : IsSameSeat before after
  pub later : IsPrefix before.seen after.seen

-- how often the number stands among these
abbrev pub times : ℕ → List ℕ → ℕ
times x [] = 0
times x (n ∷ ns) = (if nat_eq n x then 1 else 0) + times x ns

-- once for each number below the count
abbrev pub once_below : ℕ → ℕ → ℕ
once_below x count = if nat_lt x count then 1 else 0

-- not all seats of a desk that has made so many: they are fewer, and each has one of its numbers
pub record AreSome {P S : Type 0} (made : ℕ) (seats : List (SeatView P S)) : Type 0 where
  pub fewer : length seats < made
  pub numbered : All (λ s. s.number < made) seats
  pub most : made ≤ MOST_SEATS

-- what a closed desk leaves: the seats were all that were made, and the steps are theirs
pub record IsWhole {P S : Type 0} (is_legal : P → List (Entry S) → Type 0) (plan : P) (seats : List (SeatView P S)) (steps : List (Entry S)) : Type 0 where
  pub legal : is_legal plan steps
  -- the numbers below their count, each once
  pub once : (x : ℕ) → times x (map (λ s. s.number) seats) ≡ once_below x (length seats)
  -- what each has seen is a beginning of the steps, and its own entries are those with its number
  pub seen : All (λ s. IsPrefix s.seen steps) seats
  pub own : All (λ s. own s.number steps ≡ own s.number s.seen) seats
  -- every entry is one of theirs
  pub only : All (λ e. e.seat < length seats) steps
