-- What a control of each kind takes, and what holds of it.
use Rattle.std.proofs.Common.{ℕ, ◌≤◌, ◌+◌, ◌++◌, slice_get, slice_set, take, get_or, zero, suc, unwrap_or, Bool, Option, None, Some, replicate, true, false, List, [], ◌∷◌, length, map, nat_eq, eq-eqb, subst, inl, inr, ◌⊎◌, ◌≡◌, ◌<◌, ◌^◌, ℤ, pos, ◌≤ℤ◌, Result, Ok, Err, if◌then◌else◌, refl, FitsSigned, w64, to_z, of_z, bit_and, unsigned_abs, ⊎_elim, ap, ◌∙◌, sym, arith, int_lt, ◌||◌, ◌==◌}
use Rattle.std.proofs.lemmas.Bool.{cond_both, or_parts, cases_cond, eqb-true}
use Rattle.std.proofs.lemmas.Int.{ints}
use Rattle.std.proofs.lemmas.List.{length-map, length-replicate, map-append, take_all, take_more, take_more_set}
use Rattle.std.proofs.lemmas.Option.{get_or_from_slice_get}
use Rattle.std.proofs.lemmas.List.Elements.{All-cons, All-nil}
use Rattle.std.proofs.lemmas.Nat.{and_le_r, and_assoc}
use Rattle.std.proofs.Math.Nat.{mod-eq_of_lt}
use Rattle.std.specs.List.{All}
use Rattle.std.specs.Int.{bit_at}
use Rattle.std.specs.Int.Bits.{and_self}
use Rattle.std.specs.Ordering.{int_eq}
use Rattle.ctrl_types.specs.declared.value.CtrlValue.{CtrlValue}
use Rattle.ctrl_types.specs.declared.value.CtrlValue.TheVariants.{Number, Bytes}
use Rattle.ctrl_types.specs.declared.errno.Errno.{Errno}
use Rattle.ctrl_types.specs.declared.check.Check.{Check}
use Rattle.ctrl_types.specs.declared.check.Check.TheVariants.{ValueOutsideMenu, ValueSkipped, ValueNotOfKind}
use Rattle.ctrl_types.specs.Checks.{with_errno}
use Rattle.ctrl_types.specs.declared.kind.Kind.{Kind}
use Rattle.ctrl_types.specs.declared.kind.Kind.TheVariants.{Integer, Boolean, Menu, Button, Integer64, Bitmask, IntegerMenu, U8}
use Rattle.ctrl_settle.specs.Control.{Control, default_of, default_of_elems, elems_of}
use Rattle.ctrl_settle.specs.Grid.{IsOnGrid, nearest}
use Rattle.ctrl_settle.specs.Settle.{settle, settle_as, settle_value, settled_byte, settle_bytes, as_number, IsWithin, item, masked, low_bits, IsSettled, settled_anew, taken_or}
use Rattle.ctrl_settle.specs.Faults.{HasBounds, HasElems, HasMask, IsWellFormed}
use Rattle.ctrl_settle.proofs.Grid.{IsNearest-nearest, nearest-unique}
use Rattle.ctrl_settle.proofs.Masks.{bit_and-low_bits}

-- what the code's `v & maximum` gives
pub settle-word : (c : Control) (v maximum : ℤ) → c.kind ≡ Bitmask → HasMask c → maximum ≡ c.maximum → FitsSigned w64 v
    → Ok (to_z w64 (bit_and (of_z w64 v) (of_z w64 maximum))) ≡ settle_as c.kind c v
settle-word c v maximum kind bounds e fits =
    rw (e, ap (λ k. settle_as k c v) kind) (ap Ok (bit_and-low_bits v c.maximum fits (omega (arith, ints, bounds.not_empty)) bounds.maximum))

-- a value of the grid is nearest to itself
pub nearest-on_grid : (c : Control) (g : ℤ) → IsOnGrid c g → nearest c g ≡ g
nearest-on_grid c g on = sym (nearest-unique c g g (record {
  on_grid = on;
  no_nearer = λ other _. omega (arith, ints);
  larger_on_tie = λ other _ tie. omega (arith, ints);
}))

pub nearest-within : (c : Control) (v : ℤ) → c.minimum ≤ℤ c.maximum → (c.minimum ≤ℤ nearest c v) × (nearest c v ≤ℤ c.maximum)
nearest-within c v in_order =
    let on = (IsNearest-nearest c v in_order).on_grid in
    (omega (arith, ints, on.steps.1), on.within)

-- a menu takes an item of its range as it is
item-ok : (c : Control) (v w : ℤ) → item c v ≡ Ok w → (c.minimum ≤ℤ v) × (v ≤ℤ c.maximum) × (w ≡ v)
item-ok c v w =
    cond_both (int_lt v c.minimum || int_lt c.maximum v) (Err ValueOutsideMenu) (if bit_at c.skip (unsigned_abs v) == 1 then Err ValueSkipped else Ok v)
    (λ r. r ≡ Ok w → (c.minimum ≤ℤ v) × (v ≤ℤ c.maximum) × (w ≡ v))
    (λ outside e. absurd (cc e))
    (λ inside. let both = or_parts (int_lt v c.minimum) (int_lt c.maximum v) inside in
    cond_both (bit_at c.skip (unsigned_abs v) == 1) (Err ValueSkipped) (Ok v)
    (λ r. r ≡ Ok w → (c.minimum ≤ℤ v) × (v ≤ℤ c.maximum) × (w ≡ v))
    (λ skipped e. absurd (cc e))
    (λ there e. (grind (arith, ints, both.0), grind (arith, ints, both.1), cc)))

-- a bitmask leaves its own bits alone
masked-masked : (c : Control) (v : ℤ) → HasMask c → masked c (masked c v) ≡ masked c v
masked-masked c v bounds =
    let mask = unsigned_abs c.maximum in
    let kept = bit_and (low_bits v) mask in
    let small : kept < 2 ^ 32 = omega (arith, ints, and_le_r (low_bits v) mask, bounds.maximum, bounds.not_empty) in
    let low : low_bits (pos kept) ≡ kept = mod-eq_of_lt small in
    ap pos (ap (λ x. bit_and x mask) low ∙ and_assoc mask (low_bits v) mask ∙ ap (bit_and (low_bits v)) (and_self mask))

-- what a control of a kind takes lies within its bounds
within_as : (kind : Kind) (c : Control) (v w : ℤ) → c.minimum ≤ℤ c.maximum → HasBounds kind c → settle_as kind c v ≡ Ok w → (c.minimum ≤ℤ w) × (w ≤ℤ c.maximum)
within_as Integer c v w in_order bounds e = let is : w ≡ nearest c v = cc in rw is (nearest-within c v in_order)
within_as Integer64 c v w in_order bounds e = let is : w ≡ nearest c v = cc in rw is (nearest-within c v in_order)
within_as Boolean c v w in_order bounds e =
    rw (bounds.minimum, bounds.maximum) (⊎_elim
    (λ (no : w ≡ pos 0). (omega (arith, ints), omega (arith, ints)))
    (λ (yes : w ≡ pos 1). (omega (arith, ints), omega (arith, ints)))
    (cases_cond (int_eq v (pos 0)) (pos 0) (pos 1) w (cc)))
within_as Button c v w in_order bounds e = let is : w ≡ pos 0 = cc in rw (is, bounds.minimum, bounds.maximum) (omega (arith, ints), omega (arith, ints))
within_as Bitmask c v w in_order bounds e =
    let is : w ≡ masked c v = cc in
    let le = and_le_r (low_bits v) (unsigned_abs c.maximum) in
    rw is (omega (arith, ints, bounds.minimum), omega (arith, ints, bounds.not_empty))
within_as Menu c v w in_order bounds e = let i = item-ok c v w e in rw i.2 (i.0, i.1)
within_as IntegerMenu c v w in_order bounds e = let i = item-ok c v w e in rw i.2 (i.0, i.1)
within_as U8 c v w in_order bounds e = let is : w ≡ nearest c v = cc in rw is (nearest-within c v in_order)

-- a number is taken for a number
number_taken : (r : Result ℤ Check) (w : ℤ) → as_number r ≡ Ok (Number w) → r ≡ Ok w
number_taken (Ok v) w e = cc
number_taken (Err errno) w e = absurd (cc)

-- and no bytes
never_bytes : (r : Result ℤ Check) (row : List ℕ) → as_number r ≡ Ok (Bytes row) → ⊥
never_bytes (Ok v) row e = cc
never_bytes (Err errno) row e = cc

-- what an element takes for a byte lies within the bounds
byte_within : (c : Control) (byte : ℕ) → c.minimum ≤ℤ c.maximum → pos 0 ≤ℤ c.minimum → (c.minimum ≤ℤ pos (settled_byte c byte)) × (pos (settled_byte c byte) ≤ℤ c.maximum)
byte_within c byte in_order low =
    let within = nearest-within c (pos byte) in_order in
    let is : pos (settled_byte c byte) ≡ nearest c (pos byte) = omega (arith, ints, within.0, low) in
    rw is within

-- and is what it takes for itself
byte_again : (c : Control) (byte : ℕ) → c.minimum ≤ℤ c.maximum → pos 0 ≤ℤ c.minimum → settled_byte c (settled_byte c byte) ≡ settled_byte c byte
byte_again c byte in_order low =
    let within = nearest-within c (pos byte) in_order in
    let is : pos (settled_byte c byte) ≡ nearest c (pos byte) = omega (arith, ints, within.0, low) in
    ap unsigned_abs (ap (nearest c) is ∙ nearest-on_grid c (nearest c (pos byte)) (IsNearest-nearest c (pos byte) in_order).on_grid)

bytes_within : (c : Control) (row : List ℕ) → c.minimum ≤ℤ c.maximum → pos 0 ≤ℤ c.minimum → All (λ b. (c.minimum ≤ℤ pos b) × (pos b ≤ℤ c.maximum)) (map (settled_byte c) row)
bytes_within c [] in_order low = All-nil (λ b. (c.minimum ≤ℤ pos b) × (pos b ≤ℤ c.maximum))
bytes_within c (b ∷ row) in_order low = All-cons (λ b. (c.minimum ≤ℤ pos b) × (pos b ≤ℤ c.maximum)) (settled_byte c b) (map (settled_byte c) row) (byte_within c b in_order low) (bytes_within c row in_order low)

bytes_again : (c : Control) (row : List ℕ) → c.minimum ≤ℤ c.maximum → pos 0 ≤ℤ c.minimum → map (settled_byte c) (map (settled_byte c) row) ≡ map (settled_byte c) row
bytes_again c [] in_order low = refl
bytes_again c (b ∷ row) in_order low = λ i. byte_again c b in_order low i ∷ bytes_again c row in_order low i

-- the bounds of a well-formed control fit 64 bits
fits_as : (kind : Kind) (c : Control) → c.minimum ≤ℤ c.maximum → HasBounds kind c → FitsSigned w64 c.minimum × FitsSigned w64 c.maximum
fits_as Integer c in_order bounds = (omega (arith, ints, bounds.0), omega (arith, ints, bounds.1))
fits_as Integer64 c in_order bounds = bounds
fits_as Boolean c in_order bounds = rw (bounds.minimum, bounds.maximum) (omega (arith, ints), omega (arith, ints))
fits_as Button c in_order bounds = rw (bounds.minimum, bounds.maximum) (omega (arith, ints), omega (arith, ints))
fits_as Bitmask c in_order bounds = (omega (arith, ints, bounds.minimum), omega (arith, ints, bounds.not_empty, bounds.maximum))
fits_as Menu c in_order bounds = (omega (arith, ints, bounds.minimum, bounds.maximum), omega (arith, ints, bounds.minimum, bounds.maximum))
fits_as IntegerMenu c in_order bounds = (omega (arith, ints, bounds.minimum, bounds.maximum), omega (arith, ints, bounds.minimum, bounds.maximum))
fits_as U8 c in_order bounds = (omega (arith, ints, bounds.0, bounds.1), omega (arith, ints, bounds.0, bounds.1))

pub bounds_fit : (c : Control) → IsWellFormed c → FitsSigned w64 c.minimum × FitsSigned w64 c.maximum
bounds_fit c sound = fits_as c.kind c sound.in_order sound.fits_kind.bounds

-- a control takes what it took
again_as : (kind : Kind) (c : Control) (v w : ℤ) → c.minimum ≤ℤ c.maximum → HasBounds kind c → settle_as kind c v ≡ Ok w → settle_as kind c w ≡ Ok w
again_as Integer c v w in_order bounds e = let is : w ≡ nearest c v = cc in rw is (ap Ok (nearest-on_grid c (nearest c v) (IsNearest-nearest c v in_order).on_grid))
again_as Integer64 c v w in_order bounds e = let is : w ≡ nearest c v = cc in rw is (ap Ok (nearest-on_grid c (nearest c v) (IsNearest-nearest c v in_order).on_grid))
again_as Boolean c v w in_order bounds e =
    ⊎_elim {C = settle_as Boolean c w ≡ Ok w} (λ (no : w ≡ pos 0). rw no refl) (λ (yes : w ≡ pos 1). rw yes refl)
    (cases_cond (int_eq v (pos 0)) (pos 0) (pos 1) w (cc))
again_as Button c v w in_order bounds e = e
again_as Bitmask c v w in_order bounds e = let is : w ≡ masked c v = cc in rw is (ap Ok (masked-masked c v bounds))
again_as Menu c v w in_order bounds e = let i = item-ok c v w e in rw i.2 (rw i.2 at e)
again_as IntegerMenu c v w in_order bounds e = let i = item-ok c v w e in rw i.2 (rw i.2 at e)
again_as U8 c v w in_order bounds e = let is : w ≡ nearest c v = cc in rw is (ap Ok (nearest-on_grid c (nearest c v) (IsNearest-nearest c v in_order).on_grid))

-- a kind takes numbers alone, and has no elements
record TakesNumbers (kind : Kind) (c : Control) : Type 0 where
  numbers : (v : ℤ) → settle_value kind c (Number v) ≡ as_number (settle_as kind c v)
  no_bytes : (row : List ℕ) → settle_value kind c (Bytes row) ≡ Err ValueNotOfKind
  no_elems : (elems : Option ℕ) → HasElems kind elems → elems ≡ None

-- every kind but that of arrays does
by_kind : (kind : Kind) (c : Control) → (kind ≡ U8) ⊎ TakesNumbers kind c
by_kind U8 c = inl refl
by_kind Integer c = inr (record { numbers = λ v. refl; no_bytes = λ row. refl; no_elems = λ elems h. h })
by_kind Integer64 c = inr (record { numbers = λ v. refl; no_bytes = λ row. refl; no_elems = λ elems h. h })
by_kind Boolean c = inr (record { numbers = λ v. refl; no_bytes = λ row. refl; no_elems = λ elems h. h })
by_kind Button c = inr (record { numbers = λ v. refl; no_bytes = λ row. refl; no_elems = λ elems h. h })
by_kind Bitmask c = inr (record { numbers = λ v. refl; no_bytes = λ row. refl; no_elems = λ elems h. h })
by_kind Menu c = inr (record { numbers = λ v. refl; no_bytes = λ row. refl; no_elems = λ elems h. h })
by_kind IntegerMenu c = inr (record { numbers = λ v. refl; no_bytes = λ row. refl; no_elems = λ elems h. h })

-- what is taken where a test holds
taken : (b : Bool) (x w : CtrlValue) → (if b then Ok x else Err ValueNotOfKind) ≡ Ok w → (b ≡ true) × (x ≡ w)
taken true x w e = (refl, cc)
taken false x w e = absurd (cc)

-- what an array takes are the settled bytes, as many as it has elements
array_takes : (c : Control) (v w : CtrlValue) → settle_value U8 c v ≡ Ok w → (row : List ℕ) × ((length row ≡ elems_of c) × ((v ≡ Bytes row) × (w ≡ Bytes (map (settled_byte c) row))))
array_takes c (Number v) w e = absurd (cc)
array_takes c (Bytes row) w e =
    let t = taken (nat_eq (length row) (elems_of c)) (Bytes (map (settled_byte c) row)) w e in
    (row, (eqb-true (length row) (elems_of c) t.0, (refl, sym t.1)))

-- what any other control takes is a number
number_takes : (kind : Kind) (c : Control) (v w : CtrlValue) → TakesNumbers kind c → settle_value kind c v ≡ Ok w
    → (x : ℤ) × ((y : ℤ) × ((v ≡ Number x) × ((w ≡ Number y) × (settle_as kind c x ≡ Ok y))))
number_takes kind c (Bytes row) w other e = absurd (differ (sym (other.no_bytes row) ∙ e))
  where
    differ : Err ValueNotOfKind ≡ Ok w → ⊥
    differ h = cc
number_takes kind c (Number x) (Number y) other e = (x, (y, (refl, (refl, number_taken (settle_as kind c x) y (sym (other.numbers x) ∙ e)))))
number_takes kind c (Number x) (Bytes row) other e = absurd (never_bytes (settle_as kind c x) row (sym (other.numbers x) ∙ e))

-- what is taken is no check
value_taken : (r : Result CtrlValue Check) (w : CtrlValue) → with_errno r ≡ Ok w → r ≡ Ok w
value_taken (Ok v) w e = cc
value_taken (Err check) w e = absurd (cc)

-- what a control takes lies within its bounds
pub settle-within : (c : Control) (v w : CtrlValue) → IsWellFormed c → settle c v ≡ Ok w → IsWithin c w
unfolding settle
settle-within c v w sound e = by (by_kind c.kind c)
  where
    as_it_is : settle_value c.kind c v ≡ Ok w
    as_it_is = value_taken (settle_value c.kind c v) w e

    by : (c.kind ≡ U8) ⊎ TakesNumbers c.kind c → IsWithin c w
    by (inl array) =
        let t = array_takes c v w (subst (λ k. settle_value k c v ≡ Ok w) array as_it_is) in
        let bounds : HasBounds U8 c = subst (λ k. HasBounds k c) array sound.fits_kind.bounds in
        subst (IsWithin c) (sym t.1.1.1) (length-map t.0 (settled_byte c) ∙ t.1.0, bytes_within c t.0 sound.in_order bounds.0)
    by (inr other) =
        let t = number_takes c.kind c v w other as_it_is in
        subst (IsWithin c) (sym t.1.1.1.0) (within_as c.kind c t.0 t.1.0 sound.in_order sound.fits_kind.bounds t.1.1.1.1)

-- an array takes bytes that it settles to themselves
all_taken : (c : Control) (row : List ℕ) → length row ≡ elems_of c → map (settled_byte c) row ≡ row → settle_bytes c row ≡ Ok (Bytes row)
all_taken c row many own = rw (many, eq-eqb (elems_of c) (elems_of c) refl) (ap (λ (r : List ℕ). Ok (Bytes r)) own)

pub settle-settled : (c : Control) (v w : CtrlValue) → IsWellFormed c → settle c v ≡ Ok w → IsSettled c w
unfolding settle
settle-settled c v w sound e = ap with_errno (by (by_kind c.kind c))
  where
    as_it_is : settle_value c.kind c v ≡ Ok w
    as_it_is = value_taken (settle_value c.kind c v) w e

    by : (c.kind ≡ U8) ⊎ TakesNumbers c.kind c → settle_value c.kind c w ≡ Ok w
    by (inl array) =
        let t = array_takes c v w (subst (λ k. settle_value k c v ≡ Ok w) array as_it_is) in
        let bounds : HasBounds U8 c = subst (λ k. HasBounds k c) array sound.fits_kind.bounds in
        let whole : settle_bytes c (map (settled_byte c) t.0) ≡ Ok (Bytes (map (settled_byte c) t.0)) =
        all_taken c (map (settled_byte c) t.0) (length-map t.0 (settled_byte c) ∙ t.1.0) (bytes_again c t.0 sound.in_order bounds.0) in
        subst (λ x. settle_value c.kind c x ≡ Ok x) (sym t.1.1.1) (subst (λ k. settle_value k c (Bytes (map (settled_byte c) t.0)) ≡ Ok (Bytes (map (settled_byte c) t.0))) (sym array) whole)
    by (inr other) =
        let t = number_takes c.kind c v w other as_it_is in
        rw t.1.1.1.0 (other.numbers t.1.0 ∙ ap as_number (again_as c.kind c t.0 t.1.0 sound.in_order sound.fits_kind.bounds t.1.1.1.1))

-- the same byte so many times stays where it stays
repeated_stays : (f : ℕ → ℕ) (n x : ℕ) → f x ≡ x → map f (replicate n x) ≡ replicate n x
repeated_stays f zero x own = refl
repeated_stays f (suc n) x own = λ i. own i ∷ repeated_stays f n x own i

-- so does an array whose elements take the default
default_array : (c : Control) (elems : Option ℕ) → c.elems ≡ elems → HasElems U8 elems → c.minimum ≤ℤ c.maximum → pos 0 ≤ℤ c.minimum → nearest c c.default_value ≡ c.default_value → settle_value U8 c (default_of c) ≡ Ok (default_of c)
default_array c None is has in_order low own = absurd has
default_array c (Some n) is has in_order low own =
    let x = unsigned_abs c.default_value in
    let within = nearest-within c c.default_value in_order in
    let back : pos x ≡ c.default_value = omega (arith, ints, within.0, low, own) in
    let again : settled_byte c x ≡ x = ap unsigned_abs (ap (nearest c) back ∙ own) in
    subst (λ o. settle_value U8 c (default_of_elems c.default_value o) ≡ Ok (default_of_elems c.default_value o)) (sym is)
    (all_taken c (replicate n x) (length-replicate n x ∙ ap (λ o. unwrap_or o 1) (sym is)) (repeated_stays (settled_byte c) n x again))

-- what two answers have is the same
same_taken : (x y : ℤ) → ◌≡◌ {A = Result ℤ Check} (Ok x) (Ok y) → x ≡ y
same_taken x y e = cc

-- a well-formed control takes its default
pub default_settles : (c : Control) → IsWellFormed c → IsSettled c (default_of c)
unfolding settle
default_settles c sound = ap with_errno (by (by_kind c.kind c))
  where
    by : (c.kind ≡ U8) ⊎ TakesNumbers c.kind c → settle_value c.kind c (default_of c) ≡ Ok (default_of c)
    by (inl array) =
        let bounds : HasBounds U8 c = subst (λ k. HasBounds k c) array sound.fits_kind.bounds in
        let own : Ok (nearest c c.default_value) ≡ Ok c.default_value = subst (λ k. settle_as k c c.default_value ≡ Ok c.default_value) array sound.default_settled in
        subst (λ k. settle_value k c (default_of c) ≡ Ok (default_of c)) (sym array) (default_array c c.elems refl (subst (λ k. HasElems k c.elems) array sound.fits_kind.elems) sound.in_order bounds.0 (same_taken (nearest c c.default_value) c.default_value own))
    by (inr other) =
        subst (λ o. settle_value c.kind c (default_of_elems c.default_value o) ≡ Ok (default_of_elems c.default_value o)) (sym (other.no_elems c.elems sound.fits_kind.elems)) (other.numbers c.default_value ∙ ap as_number sound.default_settled)

-- so does it what it has once its range was changed
pub settled_anew-settled : (c : Control) (v : CtrlValue) → IsWellFormed c → IsSettled c (settled_anew c v)
settled_anew-settled c v sound = by (settle c v) refl
  where
    by : (r : Result CtrlValue Errno) → settle c v ≡ r → IsSettled c (taken_or (default_of c) r)
    by (Ok w) e = settle-settled c v w sound e
    by (Err errno) e = default_settles c sound

-- what each element takes for a byte fits a byte
pub byte_fits : (c : Control) (byte : ℕ) → c.minimum ≤ℤ c.maximum → pos 0 ≤ℤ c.minimum → c.maximum ≤ℤ pos 255 → (pos 0 ≤ℤ nearest c (pos byte)) × (nearest c (pos byte) ≤ℤ pos 255)
byte_fits c byte in_order low high =
    let within = nearest-within c (pos byte) in_order in
    (omega (arith, ints, within.0, low), omega (arith, ints, within.1, high))

-- the default of an array is a byte
pub default_fits : (c : Control) (n : ℕ) → IsWellFormed c → c.elems ≡ Some n → (n ≤ 32) × ((pos 0 ≤ℤ c.default_value) × (c.default_value ≤ℤ pos 255))
default_fits c n sound is = by (by_kind c.kind c)
  where
    differ : Some n ≡ None → ⊥
    differ e = cc

    by : (c.kind ≡ U8) ⊎ TakesNumbers c.kind c → (n ≤ 32) × ((pos 0 ≤ℤ c.default_value) × (c.default_value ≤ℤ pos 255))
    by (inl array) =
        let bounds : HasBounds U8 c = subst (λ k. HasBounds k c) array sound.fits_kind.bounds in
        let elems : HasElems U8 (Some n) = subst (HasElems U8) is (subst (λ k. HasElems k c.elems) array sound.fits_kind.elems) in
        let own : nearest c c.default_value ≡ c.default_value = same_taken (nearest c c.default_value) c.default_value (subst (λ k. settle_as k c c.default_value ≡ Ok c.default_value) array sound.default_settled) in
        let within = nearest-within c c.default_value sound.in_order in
        (elems.1, (omega (arith, ints, within.0, bounds.0, own), omega (arith, ints, within.1, bounds.1, own)))
    by (inr other) = absurd (differ (sym is ∙ other.no_elems c.elems sound.fits_kind.elems))

-- one more byte is settled
pub bytes_more : (f : ℕ → ℕ) (row settled : List ℕ) (i b x : ℕ) → i < length row → length settled ≡ length row → slice_get row i ≡ Some b → x ≡ f b → take i settled ≡ map f (take i row) → take (i + 1) (slice_set settled i x) ≡ map f (take (i + 1) row)
bytes_more f row settled i b x within long there is so_far =
    take_more_set settled i x (omega (arith, within, long))
    ∙ ap (λ ys. ys ++ x ∷ []) so_far
    ∙ ap (λ y. map f (take i row) ++ y ∷ []) (is ∙ ap f (sym (get_or_from_slice_get row i b 0 there)))
    ∙ sym (map-append f (take i row) (get_or row i 0 ∷ []))
    ∙ ap (map f) (sym (take_more row i 0 within))

pub bytes_more_set : (f : ℕ → ℕ) (row settled new : List ℕ) (i b x : ℕ) → i < length row → length settled ≡ length row → slice_get row i ≡ Some b → x ≡ f b → new ≡ slice_set settled i x → take i settled ≡ map f (take i row) → take (i + 1) new ≡ map f (take (i + 1) row)
bytes_more_set f row settled new i b x within long there is set so_far = ap (take (i + 1)) set ∙ bytes_more f row settled i b x within long there is so_far

-- all are
pub bytes_all : (f : ℕ → ℕ) (row settled : List ℕ) (i : ℕ) → length row ≡ i → length settled ≡ length row → take i settled ≡ map f (take i row) → settled ≡ map f row
bytes_all f row settled i end long so_far =
    sym (take_all i settled (omega (arith, long, end))) ∙ so_far ∙ ap (map f) (take_all i row (omega (arith, end)))
