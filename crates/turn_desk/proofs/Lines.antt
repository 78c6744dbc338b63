-- The last line of a transcript, which gets its answer.
use Rattle.std.proofs.Common.{◌≡◌, ℕ, ◌+◌, ◌-◌, List, [], ◌∷◌, ◌++◌, length, get_or, set, Option, Some, None, refl, ap, ◌∙◌, arith, length-append}

module _ {X : Type 0} where
  set_last : (before : List X) (x y : X) → set (before ++ x ∷ []) (length before) y ≡ before ++ y ∷ []
  set_last [] x y = refl
  set_last (b ∷ bs) x y = ap (λ l. b ∷ l) (set_last bs x y)

  get_last : (before : List X) (x d : X) → get_or (before ++ x ∷ []) (length before) d ≡ x
  get_last [] x d = refl
  get_last (b ∷ bs) x d = get_last bs x d

  last_index : (before xs : List X) (x : X) (n : ℕ) → n ≡ length xs → xs ≡ before ++ x ∷ [] → n - 1 ≡ length before
  last_index before xs x n counted is = let longer : length xs ≡ length before + 1 = ap length is ∙ length-append before (x ∷ []) in omega arith

module _ {Ask Answer : Type 0} where
  -- the line at the end keeps its ask
  pub last_heard : (xs : List (Ask × Option Answer)) (n : ℕ) (line : Ask × Option Answer) (answer : Answer) → n ≡ length xs → line ≡ get_or xs (n - 1) line
      → (before : List (Ask × Option Answer)) (ask : Ask) → xs ≡ before ++ (ask, None) ∷ [] → set xs (n - 1) (line.0, Some answer) ≡ before ++ (ask, Some answer) ∷ []
  last_heard xs n line answer counted read before ask is =
      let at = last_index before xs (ask, None) n counted is in
      let same : line ≡ (ask, None) = read ∙ (λ i. get_or (is i) (at i) line) ∙ get_last before (ask, None) line in
      (λ i. set (is i) (at i) ((same i).0, Some answer)) ∙ set_last before (ask, None) (ask, Some answer)
