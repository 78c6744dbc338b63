-- Sums over the views: what one changed view, a new one or two of them make of a sum.
use Rattle.std.proofs.Common.{◌≡◌, ◌≢◌, ℕ, zero, suc, ◌+◌, ◌≤◌, List, [], ◌∷◌, ◌++◌, set, refl, sym, ap, arith}
use mathlib.Core.Option.{some, some-injective, some-ne-none}
use lib.ListN.{get_elem?}
use Rattle.turn_desk.specs.Views.{times}
use Rattle.turn_desk.specs.Rule.{total, Each}

module _ {V : Type 0} (f : V → ℕ) where
  pub total-set : (views : List V) (id : ℕ) (v w : V) → get_elem? views id ≡ some v → total f (set views id w) + f v ≡ total f views + f w
  total-set [] id v w at = absurd (some-ne-none v (sym at))
  total-set (x ∷ xs) zero v w at = let same : f x ≡ f v = ap f (some-injective x v at) in omega arith
  total-set (x ∷ xs) (suc id) v w at = let others = total-set xs id v w at in omega arith

  pub total-push : (views : List V) (w : V) → total f (views ++ w ∷ []) ≡ total f views + f w
  total-push [] w = omega arith
  total-push (x ∷ xs) w = let others = total-push xs w in omega arith

  pub one_within : (views : List V) (i : ℕ) (v : V) → get_elem? views i ≡ some v → f v ≤ total f views
  one_within [] i v at = absurd (some-ne-none v (sym at))
  one_within (x ∷ xs) zero v at = let same : f x ≡ f v = ap f (some-injective x v at) in omega arith
  one_within (x ∷ xs) (suc i) v at = let others = one_within xs i v at in omega arith

  pub two_within : (views : List V) (i j : ℕ) (v w : V) → get_elem? views i ≡ some v → get_elem? views j ≡ some w → i ≢ j → f v + f w ≤ total f views
  two_within [] i j v w at there apart = absurd (some-ne-none v (sym at))
  two_within (x ∷ xs) zero zero v w at there apart = absurd (apart refl)
  two_within (x ∷ xs) zero (suc j) v w at there apart = let same : f x ≡ f v = ap f (some-injective x v at) in let other = one_within xs j w there in omega arith
  two_within (x ∷ xs) (suc i) zero v w at there apart = let same : f x ≡ f w = ap f (some-injective x w there) in let other = one_within xs i v at in omega arith
  two_within (x ∷ xs) (suc i) (suc j) v w at there apart = let others = two_within xs i j v w at there (λ e. apart (ap suc e)) in omega arith

module _ {V : Type 0} (f g : V → ℕ) where
  total_le : (views : List V) → ((j : ℕ) (u : V) → get_elem? views j ≡ some u → f u ≤ g u) → total f views ≤ total g views
  total_le [] below = omega arith
  total_le (x ∷ xs) below = let here = below 0 x refl in let others = total_le xs (λ j u at. below (suc j) u at) in omega arith

  -- where f is never above g, it isn't above g over all but one either
  pub others_below : (views : List V) (id : ℕ) (v : V) → ((j : ℕ) (u : V) → get_elem? views j ≡ some u → f u ≤ g u) → get_elem? views id ≡ some v → total f views + g v ≤ total g views + f v
  others_below [] id v below at = absurd (some-ne-none v (sym at))
  others_below (x ∷ xs) zero v below at =
      let same = some-injective x v at in let f_same : f x ≡ f v = ap f same in let g_same : g x ≡ g v = ap g same in
      let others = total_le xs (λ j u there. below (suc j) u there) in omega arith
  others_below (x ∷ xs) (suc id) v below at = let here = below 0 x refl in let others = others_below xs id v (λ j u there. below (suc j) u there) at in omega arith

pub times-append : (x : ℕ) (ns ms : List ℕ) → times x (ns ++ ms) ≡ times x ns + times x ms
times-append x [] ms = omega arith
times-append x (n ∷ ns) ms = let others = times-append x ns ms in omega arith

module _ {A : Type 0} (P : A → Type 0) where
  pub Each-append : (xs ys : List A) → Each P xs → Each P ys → Each P (xs ++ ys)
  Each-append [] ys left right = right
  Each-append (x ∷ xs) ys left right = (left.0, Each-append xs ys left.1 right)

  pub Each-weaker : (Q : A → Type 0) (xs : List A) → ((x : A) → P x → Q x) → Each P xs → Each Q xs
  Each-weaker Q [] weaker all = tt
  Each-weaker Q (x ∷ xs) weaker all = (weaker x all.0, Each-weaker Q xs weaker all.1)
