-- Numbers in rising order: which of some comes next, and one that is put among others or taken out.
use Rattle.std.specs.Prelude.{◌≡◌, ℕ, Bool, true, false, not, nat_eq, nat_lt, ◌<◌, ◌≤◌, List, [], ◌∷◌, count_by, filter, if◌then◌else◌}
use Rattle.std.specs.List.{insert, list_any, range_with_len}

-- The next of some numbers: the least of them from one number on, or the end, where none comes before it.
pub record IsNext (numbers : List ℕ) (from end next : ℕ) : Type 0 where
  pub starts : from ≤ next
  pub ends : next ≤ end
  pub among : next < end → list_any (nat_eq next) numbers ≡ true
  pub first : (c : ℕ) → from ≤ c → c < next → list_any (nat_eq c) numbers ≡ false

-- the numbers without one
abbrev pub others : ℕ → List ℕ → List ℕ
others k ks = filter (λ j. not (nat_eq k j)) ks

-- a number is put among rising ones, in its place, or is taken out
abbrev pub with_or_without : ℕ → Bool → List ℕ → List ℕ
with_or_without k b ks = if b then insert (others k ks) (count_by (λ j. nat_lt j k) (others k ks)) k else others k ks

-- numbers are put among rising ones, one after another
abbrev pub with_all : List ℕ → List ℕ → List ℕ
with_all [] ks = ks
with_all (j ∷ js) ks = with_all js (with_or_without j true ks)

-- some of the numbers below another, rising
abbrev pub AreRisingBelow : ℕ → List ℕ → Type 0
AreRisingBelow n ks = (p : ℕ → Bool) × (ks ≡ filter p (range_with_len 0 n))
