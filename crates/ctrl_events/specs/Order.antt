-- How numbers are kept in the order in which they came, each at most once, so that one is found, taken out and put last in a step each
-- (of this project).
use Rattle.std.specs.Prelude.{◌≡◌, ◌<◌, ◌≤◌, ◌+◌, ℕ, Bool, true, false, not, nat_eq, cond, List, [], ◌∷◌, filter, length, set, slice_get, Option, None, Some}
use Rattle.std.specs.List.{list_any}

-- numbers in an order; each below a bound has a place kept for it, and so many entries fit
pub record OrderData : Type 0 where
  pub members : List ℕ
  pub bound : ℕ
  pub room : ℕ

-- whether a number is among some
abbrev pub has : List ℕ → ℕ → Bool
has ns n = list_any (nat_eq n) ns

-- all but one number
abbrev pub without : ℕ → List ℕ → List ℕ
without n ns = filter (λ m. not (nat_eq n m)) ns

-- no number is there twice
abbrev pub AreApart : List ℕ → Type 0
AreApart [] = Unit {0}
AreApart (n ∷ ns) = (has ns n ≡ false) × AreApart ns

-- the numbers of a log; where one was taken out, its place is empty
abbrev pub logged : List (Option ℕ) → List ℕ
logged [] = []
logged (None ∷ log) = logged log
logged (Some n ∷ log) = n ∷ logged log

-- whether an entry is that of a number
abbrev pub is_of : ℕ → Option (Option ℕ) → Bool
is_of n None = false
is_of n (Some None) = false
is_of n (Some (Some m)) = nat_eq n m

-- whether there is an entry, and it is empty
abbrev pub is_empty_entry : Option (Option ℕ) → Bool
is_empty_entry None = false
is_empty_entry (Some None) = true
is_empty_entry (Some (Some n)) = false

-- the number of an entry, where it has one
abbrev pub entry_number : Option (Option ℕ) → Option ℕ
entry_number None = None
entry_number (Some o) = o

-- a place, where the number's entry is there
abbrev pub checked_place : List (Option ℕ) → ℕ → Option ℕ → Option ℕ
checked_place log n None = None
checked_place log n (Some place) = cond (is_of n (slice_get log place)) (Some place) None

-- the place of a number in a log, by the place that is kept for it
abbrev pub place_in : List (Option ℕ) → List ℕ → ℕ → Option ℕ
place_in log places n = checked_place log n (slice_get places n)

-- each entry stands where the place that is kept for its number says
unfoldable pub ArePlaced : List (Option ℕ) → List ℕ → Type 0
ArePlaced log places = (i n : ℕ) → slice_get log i ≡ Some (Some n) → slice_get places n ≡ Some i

-- the places, once that of the number that stands at one is kept
abbrev pub renewed : ℕ → Option (Option ℕ) → List ℕ → List ℕ
renewed place None places = places
renewed place (Some None) places = places
renewed place (Some (Some n)) places = set places n place

-- all entries below a place are empty
unfoldable pub AreEmptyBelow : ℕ → List (Option ℕ) → Type 0
AreEmptyBelow place log = (i : ℕ) → i < place → slice_get log i ≡ Some None

-- The entries are placed, those below the first are empty, and no more than half of them and one are.
pub record IsOrder (log : List (Option ℕ)) (places : List ℕ) (first count : ℕ) : Type 0 where
  pub placed : ArePlaced log places
  pub passed : AreEmptyBelow first log
  pub counted : count ≡ length (logged log)
  pub few : length log ≤ count + count + 1
