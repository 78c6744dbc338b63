-- The first line of a text, and the lines behind it.
use Rattle.std.proofs.Common.{◌≡◌, ℕ, ◌+◌, ◌-◌, ◌≤◌, ◌==◌, Bool, false, List, [], ◌∷◌, ◌++◌, length, take, drop, get_or, position, Some, None, All, sym, ap, ◌∙◌, ap₂, arith, take-append-drop, take_all}
use Rattle.std.specs.List.{position_or_len}
use Rattle.std.proofs.lemmas.Grind.{common_steps}
use Rattle.std.proofs.lemmas.List.{drop_more}
use Rattle.std.proofs.lemmas.List.Quantifiers.{position-Some}
use Rattle.std.proofs.lemmas.List.Splits.{slice_split_none, slice_split_at}
use Rattle.std.proofs.lemmas.List.Sums.{fails_before_first}
use Rattle.ctl_script.specs.Lines.{lines_in}

abbrev is_feed : ℕ → Bool
is_feed b = b == 10

module _ (xs : List ℕ) (i : ℕ) (e : position (λ b. b == 10) xs ≡ Some i) where
  -- what stands behind a line feed
  behind : take (length xs - (i + 1)) (drop (i + 1) xs) ≡ drop (i + 1) xs
  behind = take_all (length xs - (i + 1)) (drop (i + 1) xs) (grind (arith, common_steps))

  parts : xs ≡ take i xs ++ get_or xs i 0 ∷ drop (i + 1) xs
  parts = sym (take-append-drop i xs) ∙ ap (λ l. take i xs ++ l) (drop_more xs i 0 (position-Some is_feed xs i 0 e).0)

  -- the text is its first line, a line feed and the rest
  pub feed_here : xs ≡ take i xs ++ 10 ∷ take (length xs - (i + 1)) (drop (i + 1) xs)
  feed_here =
      let is = (position-Some is_feed xs i 0 e).1 in
      let feed : get_or xs i 0 ≡ 10 = grind (arith, common_steps) in
      parts ∙ ap₂ (λ b l. take i xs ++ b ∷ l) feed (sym behind)

  -- and its lines are the first, and those of the rest
  pub line_here : lines_in xs ≡ take i xs ∷ lines_in (take (length xs - (i + 1)) (drop (i + 1) xs))
  line_here =
      let front : All (λ x. is_feed x ≡ false) (take i xs) = λ k d m. let before = (position-Some is_feed xs i d e).2 k (grind (arith, common_steps)) in grind (arith, common_steps) in
      ap lines_in parts ∙ slice_split_at is_feed (take i xs) (get_or xs i 0) (drop (i + 1) xs) front (position-Some is_feed xs i 0 e).1 ∙ ap (λ l. take i xs ∷ lines_in l) (sym behind)

-- without a line feed there is one line
pub line_alone : (xs : List ℕ) → position (λ b. b == 10) xs ≡ None → lines_in xs ≡ xs ∷ []
line_alone xs e =
    let none : length xs ≤ position_or_len is_feed xs = grind (arith, common_steps) in
    slice_split_none is_feed xs (λ k d m. fails_before_first is_feed xs k d (omega arith))
