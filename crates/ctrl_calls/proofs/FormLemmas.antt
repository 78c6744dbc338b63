-- The values of a row of numbers, or of one array.
use Rattle.std.proofs.Common.{◌≡◌, ℕ, zero, suc, ◌<◌, ◌≤◌, ◌+◌, ◌-◌, ◌&&◌, ◌||◌, ℤ, pos, Bool, true, false, List, [], ◌∷◌, ◌++◌, length, map, take, drop, get_or, set, replicate, refl, sym, ap, ◌∙◌, arith, nat_le, Some, slice_get, subst}
use Rattle.std.specs.List.{list_all}
use Rattle.std.proofs.lemmas.Bool.{leb-true}
use Rattle.std.proofs.lemmas.List.{length-map, length-take-le, take_more, take_more_set, get_or_default}
use Rattle.std.proofs.lemmas.Option.{get_or_from_slice_get}
use Rattle.std.proofs.Math.Seq.{take-set-lt}
use Rattle.ctrl_types.proofs.ValueLemmas.{Decides-same}
use Rattle.ctrl_types.specs.Values.{is_same, zero_value}
use Rattle.ctrl_types.specs.declared.value.CtrlValue.{CtrlValue}
use Rattle.ctrl_types.specs.declared.value.CtrlValue.TheVariants.{Number, Bytes}
use Rattle.ctrl_calls.specs.Fitting.{fits, is_number}
use Rattle.ctrl_calls.specs.Forms.{as_values, values_in, AreCleared, IsClearedForm}
use Rattle.ctrl_calls.specs.declared.row_values.Form.{Form}
use Rattle.ctrl_calls.specs.declared.row_values.Form.TheVariants.{Numbers}

-- zeros as values
pub as_zeros : (n : ℕ) → as_values (replicate n (pos 0)) ≡ replicate n zero_value
as_zeros zero = refl
as_zeros (suc n) = ap (λ (rest : List CtrlValue). zero_value ∷ rest) (as_zeros n)

-- one number is another
pub as_set : (xs : List ℤ) (i : ℕ) (v : ℤ) → as_values (set xs i v) ≡ set (as_values xs) i (Number v)
as_set [] i v = refl
as_set (x ∷ xs) zero v = refl
as_set (x ∷ xs) (suc i) v = ap (λ (rest : List CtrlValue). Number x ∷ rest) (as_set xs i v)

-- in the values that fit there is no array among others
pub fits_number : (values : List CtrlValue) (i : ℕ) (d : CtrlValue) → fits values ≡ true → 1 < length values → i < length values → is_number (get_or values i d) ≡ true
fits_number values i d h many within = by (nat_le (length values) 8) (nat_le (length values) 1) (list_all is_number values) refl refl h
  where
    each : (xs : List CtrlValue) (j : ℕ) → list_all is_number xs ≡ true → j < length xs → is_number (get_or xs j d) ≡ true
    each [] j all lt = absurd (omega (arith, lt))
    each (x ∷ xs) zero all lt = first (is_number x) (list_all is_number xs) all
      where
        first : (a b : Bool) → (a && b) ≡ true → a ≡ true
        first true b e = refl
        first false b e = cc
    each (x ∷ xs) (suc j) all lt = each xs j (second (is_number x) (list_all is_number xs) all) (omega (arith, lt))
      where
        second : (a b : Bool) → (a && b) ≡ true → b ≡ true
        second true b e = e
        second false b e = cc

    by : (a b c : Bool) → nat_le (length values) 1 ≡ b → list_all is_number values ≡ c → (a && (b || c)) ≡ true → is_number (get_or values i d) ≡ true
    by false b c few all e = cc
    by true true c few all e = absurd (omega (arith, many, leb-true (length values) 1 few))
    by true false true few all e = each values i all within
    by true false false few all e = cc

-- values that fit are eight at most
pub fits_few : (values : List CtrlValue) → fits values ≡ true → length values ≤ 8
fits_few values h = leb-true (length values) 8 (by (nat_le (length values) 8) (nat_le (length values) 1 || list_all is_number values) h)
  where
    by : (a b : Bool) → (a && b) ≡ true → a ≡ true
    by true b e = refl
    by false b e = cc

-- a cell in use is a place of the row
pub set_seen : (f : Form) (cells : List ℤ) (len i : ℕ) (v : ℤ) (row : List CtrlValue) → f ≡ Numbers len cells → IsClearedForm f → values_in f ≡ row → i < length row → as_values (take len (set cells i v)) ≡ set row i (Number v)
set_seen f cells len i v row form cleared seen within =
    let is : AreCleared cells len = subst IsClearedForm form cleared in
    let same : as_values (take len cells) ≡ row = sym (ap values_in form) ∙ seen in
    let long : length row ≡ len = sym (ap length same) ∙ length-map (take len cells) (λ x. Number x) ∙ length-take-le len cells (omega (arith, is.within, is.eight)) in
    ap as_values (take-set-lt len cells i v (omega (arith, within, long))) ∙ as_set (take len cells) i v ∙ ap (λ (r : List CtrlValue). set r i (Number v)) same

-- an array stands in the place of the only value
pub set_lone : (row : List CtrlValue) (i : ℕ) (bytes : List ℕ) (v : CtrlValue) → v ≡ Bytes bytes → i < length row → (1 < length row → is_number v ≡ true) → Bytes bytes ∷ [] ≡ set row i v
set_lone [] i bytes v is within fits = absurd (omega (arith, within))
set_lone (x ∷ []) zero bytes v is within fits = ap (λ (w : CtrlValue). w ∷ []) (sym is)
set_lone (x ∷ []) (suc i) bytes v is within fits = absurd (omega (arith, within))
set_lone (x ∷ y ∷ row) i bytes v is within fits = absurd (differ (sym (ap is_number is) ∙ fits (omega arith)))
  where
    differ : false ≡ true → ⊥
    differ e = cc

-- one more value is copied
pub copied_next : (row values : List CtrlValue) (i : ℕ) (v : CtrlValue) → take i row ≡ take i values → i < length row → i < length values → slice_get values i ≡ Some v → take (i + 1) (set row i v) ≡ take (i + 1) values
copied_next row values i v so_far there within has =
    take_more_set row i v there ∙ ap (λ (vs : List CtrlValue). vs ++ v ∷ []) so_far
    ∙ ap (λ (w : CtrlValue). take i values ++ w ∷ []) (sym (get_or_from_slice_get values i v zero_value has)) ∙ sym (take_more values i zero_value within)

-- one more value is the same
pub like_next : (row values : List CtrlValue) (i : ℕ) (v : CtrlValue) → take i row ≡ take i values → i < length row → i < length values → v ≡ get_or values i v → is_same v (get_or row i zero_value) ≡ true → take (i + 1) row ≡ take (i + 1) values
like_next row values i v so_far there within at same =
    take_more row i zero_value there
    ∙ ap (λ (vs : List CtrlValue). vs ++ get_or row i zero_value ∷ []) so_far
    ∙ ap (λ (w : CtrlValue). take i values ++ w ∷ []) (sym ((Decides-same v (get_or row i zero_value)).0 same) ∙ at)
    ∙ sym (take_more values i v within)

-- a value differs
pub like_not : (row values : List CtrlValue) (i : ℕ) (v : CtrlValue) → i < length values → v ≡ get_or values i v → is_same v (get_or row i zero_value) ≡ false → row ≡ values → ⊥
like_not row values i v within at other same =
    let here : v ≡ get_or row i zero_value = at ∙ get_or_default values i v zero_value within ∙ ap (λ (vs : List CtrlValue). get_or vs i zero_value) (sym same) in
    differ (sym other ∙ (Decides-same v (get_or row i zero_value)).1 here)
  where
    differ : false ≡ true → ⊥
    differ e = cc
