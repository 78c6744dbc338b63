-- The values that a control takes as they are are those of its kind.
use Rattle.std.proofs.Common.{◌≡◌, ◌∙◌, ℕ, ◌<◌, ◌^◌, ℤ, pos, negsuc, ◌≤ℤ◌, int_lt, ◌==◌, ◌||◌, unsigned_abs, bit_and, Bool, true, false, cond, if◌then◌else◌, nat_eq, eq-eqb, inl, inr, ◌⊎◌, Result, Ok, Err, List, [], ◌∷◌, length, map, refl, sym, ap, subst, arith}
use Rattle.std.proofs.lemmas.Bool.{cond_both, or_parts, eqb-true}
use Rattle.std.proofs.lemmas.Bool.Decides.{nat_tests}
use Rattle.std.proofs.lemmas.Int.{ints}
use Rattle.std.proofs.lemmas.List.Elements.{All-cons, All-head, All-nil, All-tail}
use Rattle.std.proofs.lemmas.Nat.{and_le_r}
use Rattle.std.proofs.lemmas.Nat.Bits.{bit_at-lt}
use Rattle.std.proofs.Math.Nat.{mod-eq_of_lt}
use Rattle.std.specs.Int.{bit_at}
use Rattle.std.specs.List.{All}
use Rattle.std.specs.Ordering.{int_eq}
use Rattle.ctrl_types.specs.Checks.{with_errno}
use Rattle.ctrl_types.specs.declared.check.Check.{Check}
use Rattle.ctrl_types.specs.declared.check.Check.TheVariants.{ValueNotOfKind, ValueOutsideMenu, ValueSkipped}
use Rattle.ctrl_types.specs.declared.kind.Kind.{Kind}
use Rattle.ctrl_types.specs.declared.kind.Kind.TheVariants.{Integer, Boolean, Menu, Button, Integer64, Bitmask, IntegerMenu, U8}
use Rattle.ctrl_types.specs.declared.value.CtrlValue.{CtrlValue}
use Rattle.ctrl_types.specs.declared.value.CtrlValue.TheVariants.{Number, Bytes}
use Rattle.ctrl_settle.specs.Control.{Control, elems_of}
use Rattle.ctrl_settle.specs.Faults.{HasBounds, HasMask, IsWellFormed}
use Rattle.ctrl_settle.specs.Grid.{IsOnGrid, nearest}
use Rattle.ctrl_settle.specs.Settle.{IsSettled, as_number, item, low_bits, masked, settle, settle_value, settled_byte}
use Rattle.ctrl_settle.proofs.Grid.{IsNearest-nearest}
use Rattle.ctrl_settle.proofs.Settling.{nearest-on_grid, nearest-within}
use Rattle.taken_values.specs.Kinds.{IsIndex, IsMask, IsValueAs, IsValueOf}

-- what is taken is no check
no_check : (r : Result CtrlValue Check) (w : CtrlValue) → with_errno r ≡ Ok w → r ≡ Ok w
no_check (Ok v) w e = cc
no_check (Err check) w e = absurd (cc)

-- what is its own nearest value lies on the grid
on_grid : (c : Control) (v : ℤ) → c.minimum ≤ℤ c.maximum → nearest c v ≡ v → IsOnGrid c v
on_grid c v in_order own = subst (IsOnGrid c) own (IsNearest-nearest c v in_order).on_grid

-- a test of an item of a menu
indexed : (c : Control) (v : ℤ) → item c v ≡ Ok v → IsIndex c v
indexed c v =
    cond_both (int_lt v c.minimum || int_lt c.maximum v) (Err ValueOutsideMenu) (if bit_at c.skip (unsigned_abs v) == 1 then Err ValueSkipped else Ok v) (λ r. r ≡ Ok v → IsIndex c v)
    (λ outside e. absurd (cc e))
    (λ inside. let both = or_parts (int_lt v c.minimum) (int_lt c.maximum v) inside in
    cond_both (bit_at c.skip (unsigned_abs v) == 1) (Err ValueSkipped) (Ok v) (λ r. r ≡ Ok v → IsIndex c v)
    (λ skipped e. absurd (cc e))
    (λ there e. (grind (arith, ints, both.0), grind (arith, ints, both.1), unset (bit_at c.skip (unsigned_abs v)) (bit_at-lt c.skip (unsigned_abs v)) there)))
  where
    unset : (b : ℕ) → b < 2 → (b == 1) ≡ false → b ≡ 0
    unset b lt other = grind (arith, nat_tests, lt, other)

indexes : (c : Control) (v : ℤ) → IsIndex c v → item c v ≡ Ok v
indexes c v is =
    let low : int_lt v c.minimum ≡ false = grind (arith, ints, is.0) in
    let high : int_lt c.maximum v ≡ false = grind (arith, ints, is.1) in
    let there : (bit_at c.skip (unsigned_abs v) == 1) ≡ false = unset (bit_at c.skip (unsigned_abs v)) is.2 in
    rw (low, high, there) refl
  where
    unset : (b : ℕ) → b ≡ 0 → (b == 1) ≡ false
    unset b zero = rw zero refl

-- a mask of bits of the maximum stays
masks : (c : Control) (v : ℤ) → HasMask c → IsMask c v → masked c v ≡ v
masks c (pos n) bounds is =
    let small : n < 2 ^ 32 = omega (arith, ints, is.1, and_le_r n (unsigned_abs c.maximum), bounds.maximum, bounds.not_empty) in
    let low : low_bits (pos n) ≡ n = mod-eq_of_lt small in
    ap pos (ap (λ x. bit_and x (unsigned_abs c.maximum)) low ∙ is.1)
masks c (negsuc n) bounds is = absurd (omega (arith, ints, is.0))

-- what stays has bits of the maximum alone
masked_own : (c : Control) (v : ℤ) → HasMask c → masked c v ≡ v → IsMask c v
masked_own c (pos n) bounds own =
    let kept : bit_and (low_bits (pos n)) (unsigned_abs c.maximum) ≡ n = cc in
    let small : n < 2 ^ 32 = omega (arith, ints, kept, and_le_r (low_bits (pos n)) (unsigned_abs c.maximum), bounds.maximum, bounds.not_empty) in
    let low : low_bits (pos n) ≡ n = mod-eq_of_lt small in
    (omega (arith, ints), ap (λ x. bit_and x (unsigned_abs c.maximum)) (sym low) ∙ kept)
masked_own c (negsuc n) bounds own = absurd (differ own)
  where
    differ : pos (bit_and (low_bits (negsuc n)) (unsigned_abs c.maximum)) ≡ negsuc n → ⊥
    differ e = cc

-- a boolean
truth : (v : ℤ) → (if int_eq v (pos 0) then pos 0 else pos 1) ≡ v → (v ≡ pos 0) ⊎ (v ≡ pos 1)
truth v e = by (int_eq v (pos 0)) e
  where
    by : (b : Bool) → cond b (pos 0) (pos 1) ≡ v → (v ≡ pos 0) ⊎ (v ≡ pos 1)
    by true h = inl (sym h)
    by false h = inr (sym h)

-- bytes that settle to themselves lie on the grid
bytes_on_grid : (c : Control) (row : List ℕ) → c.minimum ≤ℤ c.maximum → pos 0 ≤ℤ c.minimum → map (settled_byte c) row ≡ row → All (λ b. IsOnGrid c (pos b)) row
bytes_on_grid c [] in_order low own = All-nil (λ b. IsOnGrid c (pos b))
bytes_on_grid c (b ∷ row) in_order low own =
    let first : settled_byte c b ≡ b = cc in
    let rest : map (settled_byte c) row ≡ row = cc in
    let within = nearest-within c (pos b) in_order in
    let is : nearest c (pos b) ≡ pos b = omega (arith, ints, within.0, low, first) in
    All-cons (λ x. IsOnGrid c (pos x)) b row (on_grid c (pos b) in_order is) (bytes_on_grid c row in_order low rest)

-- and bytes of the grid settle to themselves
grid_bytes : (c : Control) (row : List ℕ) → All (λ b. IsOnGrid c (pos b)) row → map (settled_byte c) row ≡ row
grid_bytes c [] all = refl
grid_bytes c (b ∷ row) all =
    let first : settled_byte c b ≡ b = ap unsigned_abs (nearest-on_grid c (pos b) (All-head (λ x. IsOnGrid c (pos x)) b row all)) in
    let rest = grid_bytes c row (All-tail (λ x. IsOnGrid c (pos x)) b row all) in
    λ i. first i ∷ rest i

-- what is taken where a test holds
tested : (b : Bool) (x w : CtrlValue) → (if b then Ok x else Err ValueNotOfKind) ≡ Ok w → (b ≡ true) × (x ≡ w)
tested true x w e = (refl, cc)
tested false x w e = absurd (cc)

-- a number that is taken as it is
number_own : (r : Result ℤ Check) (v : ℤ) → as_number r ≡ Ok (Number v) → r ≡ Ok v
number_own (Ok w) v e = cc
number_own (Err check) v e = absurd (cc)

same_number : (v w : ℤ) → ◌≡◌ {A = Result ℤ Check} (Ok v) (Ok w) → v ≡ w
same_number v w e = cc

-- what a control of a kind takes as it is
kept_as : (kind : Kind) (c : Control) (v : CtrlValue) → c.minimum ≤ℤ c.maximum → HasBounds kind c → settle_value kind c v ≡ Ok v → IsValueAs kind c v
kept_as Integer c (Number v) in_order bounds e = on_grid c v in_order (same_number (nearest c v) v (number_own (Ok (nearest c v)) v e))
kept_as Integer64 c (Number v) in_order bounds e = on_grid c v in_order (same_number (nearest c v) v (number_own (Ok (nearest c v)) v e))
kept_as Boolean c (Number v) in_order bounds e = truth v (same_number (if int_eq v (pos 0) then pos 0 else pos 1) v (number_own (Ok (if int_eq v (pos 0) then pos 0 else pos 1)) v e))
kept_as Menu c (Number v) in_order bounds e = indexed c v (number_own (item c v) v e)
kept_as IntegerMenu c (Number v) in_order bounds e = indexed c v (number_own (item c v) v e)
kept_as Bitmask c (Number v) in_order bounds e = masked_own c v bounds (same_number (masked c v) v (number_own (Ok (masked c v)) v e))
kept_as Button c (Number v) in_order bounds e = sym (same_number (pos 0) v (number_own (Ok (pos 0)) v e))
kept_as U8 c (Number v) in_order bounds e = absurd (cc)
kept_as U8 c (Bytes row) in_order bounds e =
    let t = tested (nat_eq (length row) (elems_of c)) (Bytes (map (settled_byte c) row)) (Bytes row) e in
    (eqb-true (length row) (elems_of c) t.0, bytes_on_grid c row in_order bounds.0 (same_bytes (map (settled_byte c) row) row t.1))
  where
    same_bytes : (a b : List ℕ) → Bytes a ≡ Bytes b → a ≡ b
    same_bytes a b h = cc
kept_as Integer c (Bytes row) in_order bounds e = absurd (cc)
kept_as Integer64 c (Bytes row) in_order bounds e = absurd (cc)
kept_as Boolean c (Bytes row) in_order bounds e = absurd (cc)
kept_as Menu c (Bytes row) in_order bounds e = absurd (cc)
kept_as IntegerMenu c (Bytes row) in_order bounds e = absurd (cc)
kept_as Bitmask c (Bytes row) in_order bounds e = absurd (cc)
kept_as Button c (Bytes row) in_order bounds e = absurd (cc)

-- a value of a kind is taken as it is
keeps_as : (kind : Kind) (c : Control) (v : CtrlValue) → HasBounds kind c → IsValueAs kind c v → settle_value kind c v ≡ Ok v
keeps_as Integer c (Number v) bounds is = ap (λ x. Ok (Number x)) (nearest-on_grid c v is)
keeps_as Integer64 c (Number v) bounds is = ap (λ x. Ok (Number x)) (nearest-on_grid c v is)
keeps_as Boolean c (Number v) bounds (inl is) = rw is refl
keeps_as Boolean c (Number v) bounds (inr is) = rw is refl
keeps_as Menu c (Number v) bounds is = ap as_number (indexes c v is)
keeps_as IntegerMenu c (Number v) bounds is = ap as_number (indexes c v is)
keeps_as Bitmask c (Number v) bounds is = ap (λ x. Ok (Number x)) (masks c v bounds is)
keeps_as Button c (Number v) bounds is = ap (λ x. Ok (Number x)) (sym is)
keeps_as U8 c (Number v) bounds is = absurd is
keeps_as U8 c (Bytes row) bounds is = rw (eq-eqb (length row) (elems_of c) is.0) (ap (λ x. Ok (Bytes x)) (grid_bytes c row is.1))
keeps_as Integer c (Bytes row) bounds is = absurd is
keeps_as Integer64 c (Bytes row) bounds is = absurd is
keeps_as Boolean c (Bytes row) bounds is = absurd is
keeps_as Menu c (Bytes row) bounds is = absurd is
keeps_as IntegerMenu c (Bytes row) bounds is = absurd is
keeps_as Bitmask c (Bytes row) bounds is = absurd is
keeps_as Button c (Bytes row) bounds is = absurd is

-- what a well-formed control takes as it is are the values of its kind
pub kept : (c : Control) (v : CtrlValue) → IsWellFormed c → IsSettled c v → IsValueOf c v
unfolding settle
kept c v sound is = kept_as c.kind c v sound.in_order sound.fits_kind.bounds (no_check (settle_value c.kind c v) v is)

pub keeps : (c : Control) (v : CtrlValue) → IsWellFormed c → IsValueOf c v → IsSettled c v
unfolding settle
keeps c v sound is = ap with_errno (keeps_as c.kind c v sound.fits_kind.bounds is)
