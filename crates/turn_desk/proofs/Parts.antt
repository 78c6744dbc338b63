-- What each kind of step needs of one view and its accounts.
use Rattle.std.proofs.Common.{◌≡◌, ◌≢◌, ⊎_elim, ℕ, zero, suc, ◌+◌, ◌<◌, ◌≤◌, List, [], ◌∷◌, ◌++◌, length, map, set, cond, nat_eq, refl, sym, ap, ◌∙◌, subst, append-nil, arith}
use Rattle.std.proofs.lemmas.Bool.Decides.{nat_tests}
use mathlib.Core.Option.{some}
use lib.ListN.{get_elem?}
use Rattle.history.specs.declared.entry.Entry.{Entry}
use Rattle.history.specs.Past.{own}
use Rattle.history.specs.Prefix.{IsPrefix}
use Rattle.atomic_table.proofs.Lists.{at_set}
use Rattle.turn_desk.specs.declared.rule.Account.{Account}
use Rattle.turn_desk.specs.declared.rule.View.{View}
use Rattle.turn_desk.specs.Views.{times, once_below}
use Rattle.turn_desk.specs.Rule.{Each, numbers, IsAccount, Fits, is_taken}
use Rattle.turn_desk.specs.Plays.{account, first_of, rest_of}
use Rattle.turn_desk.proofs.Histories.{prefix_refl, prefix_push, own-append, own-other, own-none}

pub taken_one : (n : ℕ) → 0 < n → is_taken n ≡ 1
taken_one zero h = absurd (omega arith)
taken_one (suc n) h = refl

pub taken_le : (n : ℕ) → is_taken n ≤ 1
taken_le zero = omega arith
taken_le (suc n) = omega arith

pub once_inside : (x count : ℕ) → 0 < once_below x count → x < count
once_inside x count h = grind (arith, nat_tests)

pub once_outside : (x count : ℕ) → count ≤ x → once_below x count ≡ 0
once_outside x count h = grind (arith, nat_tests)

pub once_le : (x count : ℕ) → once_below x count ≤ 1
once_le x count = grind (arith, nat_tests)

pub once_more : (x n : ℕ) → once_below x (n + 1) ≡ once_below x n + cond (nat_eq n x) 1 0
once_more x n = grind (arith, nat_tests)

pub apart_in : (n x k : ℕ) → cond (nat_eq n x) 1 0 + k ≡ 0 → n ≢ x
apart_in n x k h = grind (arith, nat_tests)

module _ {S : Type 0} where
  pub numbers-caught_up : (h : List (Entry S)) (xs : List (Account S)) → numbers (map (λ a. account a.number h) xs) ≡ numbers xs
  numbers-caught_up h [] = refl
  numbers-caught_up h (a ∷ xs) = ap (λ l. a.number ∷ l) (numbers-caught_up h xs)

  pub length-caught_up : (h : List (Entry S)) (xs : List (Account S)) → length (map (λ a. account a.number h) xs) ≡ length xs
  length-caught_up h [] = refl
  length-caught_up h (a ∷ xs) = ap suc (length-caught_up h xs)

  pub raised_accounts : (h : List (Entry S)) (xs : List (Account S)) → Each (IsAccount h) (map (λ a. account a.number h) xs)
  raised_accounts h [] = tt
  raised_accounts h (a ∷ xs) = (record { prefix = prefix_refl h; whole = refl }, raised_accounts h xs)

  pub numbers-append : (xs bs : List (Account S)) → numbers (xs ++ bs) ≡ numbers xs ++ numbers bs
  numbers-append [] bs = refl
  numbers-append (a ∷ xs) bs = ap (λ l. a.number ∷ l) (numbers-append xs bs)

  pub times-parts : (x : ℕ) (xs : List (Account S)) → times x (numbers (first_of xs)) + times x (numbers (rest_of xs)) ≡ times x (numbers xs)
  times-parts x [] = omega arith
  times-parts x (a ∷ xs) = omega arith

  pub length-parts : (xs : List (Account S)) → length (first_of xs) + length (rest_of xs) ≡ length xs
  length-parts [] = omega arith
  length-parts (a ∷ xs) = omega arith

  pub first_some : (xs : List (Account S)) → 0 < length xs → 0 < length (first_of xs)
  first_some [] h = h
  first_some (a ∷ xs) h = omega arith

  module _ (Q : Account S → Type 0) where
    pub Each-first_of : (xs : List (Account S)) → Each Q xs → Each Q (first_of xs)
    Each-first_of [] all = tt
    Each-first_of (a ∷ xs) all = (all.0, tt)

    pub Each-rest_of : (xs : List (Account S)) → Each Q xs → Each Q (rest_of xs)
    Each-rest_of [] all = tt
    Each-rest_of (a ∷ xs) all = all.1

  -- accounts of other numbers stay whole where an entry comes
  pub still_whole : (h : List (Entry S)) (n : ℕ) (s : S) (xs : List (Account S)) → times n (numbers xs) ≡ 0 → Each (IsAccount h) xs → Each (IsAccount (h ++ record { seat = n; step = s } ∷ [])) xs
  still_whole h n s [] none all = tt
  still_whole h n s (a ∷ xs) none all = (
    record {
      prefix = prefix_push (record { seat = n; step = s } ∷ []) all.0.prefix;
      whole = own-append a.number h (record { seat = n; step = s } ∷ []) ∙ ap (λ l. own a.number h ++ l) (own-other a.number n s (λ e. apart_in a.number n (times n (numbers xs)) none (sym e))) ∙ append-nil (own a.number h) ∙ all.0.whole;
    },
    still_whole h n s xs (omega arith) all.1,
  )

  -- of a beginning of a history
  pub seats_seen : (count : ℕ) (seen h : List (Entry S)) → IsPrefix seen h → Each (λ e. e.seat < count) h → Each (λ e. e.seat < count) seen
  seats_seen count seen h begins below = front seen begins.rest (subst (Each (λ e. e.seat < count)) (sym begins.joined) below)
    where
      front : (xs ys : List (Entry S)) → Each (λ e. e.seat < count) (xs ++ ys) → Each (λ e. e.seat < count) xs
      front [] ys all = tt
      front (x ∷ xs) ys all = (all.0, front xs ys all.1)

  -- where no entry has the number
  pub none_seen : (n count : ℕ) (seen h : List (Entry S)) → IsPrefix seen h → Each (λ e. e.seat < count) h → count ≤ n → own n seen ≡ []
  none_seen n count seen h begins below above = own-none n count seen (seats_seen count seen h begins below) above

module _ {P S : Type 0} (plan : P) (history : List (Entry S)) (count : ℕ) where
  pub fits_set : (views : List (View P S)) (id : ℕ) (w : View P S) → ((j : ℕ) (u : View P S) → j ≢ id → get_elem? views j ≡ some u → Fits plan history count u) → Fits plan history count w
      → (j : ℕ) (u : View P S) → get_elem? (set views id w) j ≡ some u → Fits plan history count u
  fits_set views id w others mine j u at =
      ⊎_elim
      (λ (x : (j ≡ id) × (w ≡ u)). subst (Fits plan history count) x.1 mine)
      (λ (x : (j ≢ id) × (get_elem? views j ≡ some u)). others j u x.0 x.1)
      (at_set views id j w u at)
