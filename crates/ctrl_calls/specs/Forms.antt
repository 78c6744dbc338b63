-- The cells of a row of numbers, or of one array.
use Rattle.std.specs.Prelude.{ℕ, ◌-◌, ◌≤◌, ◌≡◌, ℤ, pos, List, [], ◌∷◌, ◌++◌, length, map, take, drop, replicate}
use Rattle.std.proofs.Common.{arith, refl, ap, ◌∙◌}
use Rattle.std.proofs.lemmas.List.{take-append-drop, length-take-le, length-map}
use Rattle.ctrl_types.specs.Values.{number_of}
use Rattle.ctrl_types.specs.declared.value.CtrlValue.{CtrlValue}
use Rattle.ctrl_types.specs.declared.value.CtrlValue.TheVariants.{Number, Bytes}
use Rattle.ctrl_calls.specs.declared.row_values.Form.{Form}
use Rattle.ctrl_calls.specs.declared.row_values.Form.TheVariants.{Numbers, Array}

-- numbers as values
abbrev pub as_values : List ℤ → List CtrlValue
as_values numbers = map (λ v. Number v) numbers

-- the values of a row
abbrev pub values_in : Form → List CtrlValue
values_in (Numbers len cells) = as_values (take len cells)
values_in (Array bytes) = Bytes bytes ∷ []

-- there are eight cells, and those behind the row are zero
pub record AreCleared (cells : List ℤ) (len : ℕ) : Type 0 where
  pub eight : length cells ≡ 8
  pub within : len ≤ 8
  pub zeros : drop len cells ≡ replicate (8 - len) (pos 0)

-- so they are where the row has numbers
abbrev pub IsClearedForm : Form → Type 0
IsClearedForm (Numbers len cells) = AreCleared cells len
IsClearedForm (Array bytes) = Unit {0}

-- the form that holds values
abbrev pub form_of : List CtrlValue → Form
form_of (Bytes bytes ∷ rest) = Array bytes
form_of (Number v ∷ rest) = Numbers (length (v ∷ map number_of rest)) ((v ∷ map number_of rest) ++ replicate (8 - length (v ∷ map number_of rest)) (pos 0))
form_of [] = Numbers 0 (replicate 8 (pos 0))

-- numbers come back from their values
numbers_back : (xs : List ℤ) → map number_of (as_values xs) ≡ xs
numbers_back [] = refl
numbers_back (x ∷ xs) = ap (λ (rest : List ℤ). x ∷ rest) (numbers_back xs)

form_of-as_values : (xs : List ℤ) → form_of (as_values xs) ≡ Numbers (length xs) (xs ++ replicate (8 - length xs) (pos 0))
form_of-as_values [] = refl
form_of-as_values (x ∷ xs) = ap (λ (rest : List ℤ). Numbers (length (x ∷ rest)) ((x ∷ rest) ++ replicate (8 - length (x ∷ rest)) (pos 0))) (numbers_back xs)

-- the form comes back from the values
pub form_of-values_in : (f : Form) → IsClearedForm f → form_of (values_in f) ≡ f
form_of-values_in (Array bytes) h = refl
form_of-values_in (Numbers len cells) h =
    form_of-as_values (take len cells)
    ∙ rw (length-take-le len cells (omega (arith, h.within, h.eight)), ← h.zeros, take-append-drop len cells) refl
