-- Links, each from one number to another: what is reached by them from a number, on and on.
use Rattle.std.specs.Prelude.{◌<◌, ℕ, zero, suc, Bool, not, ◌&&◌, ◌||◌, List, length, nat_eq}
use Rattle.std.specs.List.{All, list_any, filter, range_with_len}

-- some link leads to a number from one of these
abbrev pub is_led_to : List (ℕ × ℕ) → (ℕ → Bool) → ℕ → Bool
is_led_to links these n = list_any (λ link. these link.0 && nat_eq link.1 n) links

-- whether so many links in a row, or fewer, lead from a number to another; none leads to the number itself
unfoldable pub is_near : List (ℕ × ℕ) → ℕ → ℕ → ℕ → Bool
is_near links from zero n = nat_eq from n
is_near links from (suc most) n = is_near links from most n || is_led_to links (is_near links from most) n

-- Whether a number is reached from another. As many links in a row as there are lead wherever more do (the law `reached_on`).
abbrev pub is_reached : List (ℕ × ℕ) → ℕ → ℕ → Bool
is_reached links from n = is_near links from (length links) n

-- the others, below a count, that are reached from a number, in rising order
abbrev pub others_reached : ℕ → List (ℕ × ℕ) → ℕ → List ℕ
others_reached count links from = filter (λ n. is_reached links from n && not (nat_eq from n)) (range_with_len 0 count)

-- both ends of each link lie below a count
abbrev pub AreBelow : ℕ → List (ℕ × ℕ) → Type 0
AreBelow count links = All (λ link. (link.0 < count) × (link.1 < count)) links
