-- A history is a list of entries, oldest first. Definitions over it go by its past: the same entries, newest first.
use Rattle.std.specs.Prelude.{ℕ, List, [], ◌∷◌, Option, Some, None, nat_eq, filter, reverse}
use Rattle.history.specs.declared.entry.Entry.{Entry}

-- the entries, newest first
abbrev pub past : {S : Type 0} → List (Entry S) → List (Entry S)
past steps = reverse steps

-- the entries of one seat, in order
abbrev pub own : {S : Type 0} → ℕ → List (Entry S) → List (Entry S)
own seat steps = filter (λ e. nat_eq e.seat seat) steps

-- what a call at a seat adds: the step that it took, or nothing
abbrev pub entered : {S : Type 0} → ℕ → Option S → List (Entry S)
entered seat None = []
entered seat (Some s) = record { seat = seat; step = s } ∷ []
