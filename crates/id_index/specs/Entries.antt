-- Entries of an index, each an id and its number: which number is found under an id, and which id comes next.
use Rattle.std.specs.Prelude.{◌≡◌, ◌<◌, ◌≤◌, ℕ, Bool, true, List, nat_eq, Option, is_some}
use Rattle.std.specs.List.Sorted.{IsNonDecreasingBy}
use Rattle.std.specs.Map.{lookup}

-- the number of the first entry with an id
abbrev pub number_of : List (ℕ × ℕ) → ℕ → Option ℕ
number_of entries id = lookup (nat_eq id) entries

-- some entry has this id
abbrev pub has_id : List (ℕ × ℕ) → ℕ → Bool
has_id entries id = is_some (number_of entries id)

-- one of the ids that lies above another, and none that does is less
abbrev pub IsNext : List (ℕ × ℕ) → ℕ → ℕ → Type 0
IsNext entries id next = (has_id entries next ≡ true) × (id < next) × ((other : ℕ) → has_id entries other ≡ true → id < other → next ≤ other)

-- none of the ids lies above this one
abbrev pub IsPastAll : List (ℕ × ℕ) → ℕ → Type 0
IsPastAll entries id = (other : ℕ) → has_id entries other ≡ true → other ≤ id

-- in rising order of the ids
abbrev pub IsRising : List (ℕ × ℕ) → Type 0
IsRising entries = IsNonDecreasingBy (λ e. e.0) entries
