-- When rows of boards are seen as the same.
use Rattle.std.proofs.Common.{arith, ◌≡◌, ◌<◌, ℕ, suc, length, Bool, true, List, [], ◌∷◌, Some, slice_get, nat_eq, ◌&&◌, refl, ap}
use Rattle.std.specs.Bool.{Decides}
use Rattle.std.specs.Cmp.Lexicographic.{pointwise}
use Rattle.std.proofs.lemmas.Bool.Decides.{Decides-eqb, Decides-and}
use Rattle.std.proofs.lemmas.Slice.Eq.{slice_eq-Decides}
use Rattle.ctrl_types.proofs.ValueLemmas.{eq_decides}
use Rattle.ctrl_types.specs.declared.value.CtrlValue.{CtrlValue}
use Rattle.ctrl_types.specs.contracts.value.CtrlValuePartialEq.TheImpl.{eq-value}
use Rattle.ctrl_forecast.specs.declared.board.Forecast.{Forecast}

-- `==` of two values
same_values : (v w : CtrlValue) (r : Bool) → r ≡ eq-value.it v w → Decides r (v ≡ w)
same_values v w r is = rw is (eq_decides v w)

-- whether two rows are the same, part by part
abbrev pub same_parts : Forecast → Forecast → Bool
same_parts a b = ((nat_eq a.request.0 b.request.0 && nat_eq a.buffer b.buffer) && pointwise eq-value.it a.values b.values) && pointwise nat_eq a.refused b.refused

abbrev Same : Forecast → Forecast → Type 0
Same a b = (((a.request.0 ≡ b.request.0) × (a.buffer ≡ b.buffer)) × (a.values ≡ b.values)) × (a.refused ≡ b.refused)

decides : (a b : Forecast) → Decides (same_parts a b) (Same a b)
decides a b =
    Decides-and _ _
    (Decides-and _ _ (Decides-and _ _ (Decides-eqb a.request.0 b.request.0) (Decides-eqb a.buffer b.buffer)) (slice_eq-Decides (λ v w. same_values v w _ refl) a.values b.values _ refl))
    (slice_eq-Decides Decides-eqb a.refused b.refused _ refl)

pub same_row : (a b : Forecast) → same_parts a b ≡ true → a ≡ b
same_row a b h =
    let same : Same a b = (decides a b).0 h in
    λ i. record { request = record { 0 = same.0.0.0 i }; buffer = same.0.0.1 i; values = same.0.1 i; refused = same.1 i }

pub row_same : (a b : Forecast) → a ≡ b → same_parts a b ≡ true
row_same a b is = (decides a b).1 (((ap (λ (f : Forecast). f.request.0) is, ap (λ (f : Forecast). f.buffer) is), ap (λ (f : Forecast). f.values) is), ap (λ (f : Forecast). f.refused) is)

-- as many rows, the same at each place
pub same_rows : (xs ys : List Forecast) → length xs ≡ length ys → ((i : ℕ) → i < length xs → slice_get xs i ≡ slice_get ys i) → xs ≡ ys
same_rows [] [] long each = refl
same_rows [] (y ∷ ys) long each = absurd (omega (arith, long))
same_rows (x ∷ xs) [] long each = absurd (omega (arith, long))
same_rows (x ∷ xs) (y ∷ ys) long each = λ i. first (each 0 (omega arith)) i ∷ same_rows xs ys (omega (arith, long)) (λ j lt. each (suc j) (omega (arith, lt))) i
  where
    first : Some x ≡ Some y → x ≡ y
    first e = cc
