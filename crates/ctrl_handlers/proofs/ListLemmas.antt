-- Lemmas on lists that several proofs share.
use Rattle.std.proofs.Common.{◌≡◌, ℕ, ◌+◌, ◌<◌, Bool, cond, List, length, get_or, drop, Some, drop-cons, add-one, refl}
use Rattle.std.specs.List.{find as first_that}

-- a search from a place on looks there first
pub find_drop : {X : Type 0} (p : X → Bool) (xs : List X) (i : ℕ) (d : X) → i < length xs
    → first_that p (drop i xs) ≡ cond (p (get_or xs i d)) (Some (get_or xs i d)) (first_that p (drop (i + 1) xs))
find_drop p xs i d lt = rw (drop-cons xs i d, add-one) refl
