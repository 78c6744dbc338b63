-- Nothing is wrong with a range that is wanted.
use Rattle.std.proofs.Common.{◌≡◌, ◌-◌, ◌^◌, ℤ, pos, negsuc, ◌≤ℤ◌, ◌<ℤ◌, int_lt, Bool, true, false, Option, None, Some, is_some, Ok, FitsSigned, w32, w64, to_z, of_z, refl, ap, ◌∙◌, arith}
use Rattle.std.specs.Int.{w128}
use Rattle.std.proofs.lemmas.Bool.{cond_both}
use Rattle.std.proofs.lemmas.Int.{ints}
use Rattle.std.proofs.Math.Facts.{to_z-of_z}
use Rattle.ctrl_types.specs.declared.kind.Kind.{Kind}
use Rattle.ctrl_types.specs.declared.kind.Kind.TheVariants.{Integer, Boolean, Menu, Button, Integer64, Bitmask, IntegerMenu, U8}
use Rattle.ctrl_settle.specs.Control.{Control, with_range}
use Rattle.ctrl_settle.specs.Faults.{HasBounds, IsWellFormed}
use Rattle.ctrl_settle.specs.Grid.{nearest}
use Rattle.ctrl_settle.specs.Settle.{settle_as}
use Rattle.ctrl_settle.proofs.Grid.{IsNearest-nearest}
use Rattle.ctrl_settle.proofs.Settling.{nearest-on_grid, nearest-within}
use Rattle.range_followers.specs.Wanted.{can_follow, cut, greater, least_of, lesser, most_of, wanted_maximum, wanted_minimum, wanted_of}

-- a number lies within what the type holds
abbrev pub Fits : Kind → ℤ → Type 0
Fits kind v = (least_of kind ≤ℤ v) × (v ≤ℤ most_of kind)

-- the bounds of an integer and of an integer64 can follow, and no other
pub only_two : (P : Kind → Type 0) (kind : Kind) → can_follow kind ≡ true → P Integer → P Integer64 → P kind
only_two P Integer e one two = one
only_two P Integer64 e one two = two
only_two P Boolean e one two = absurd (cc)
only_two P Menu e one two = absurd (cc)
only_two P Button e one two = absurd (cc)
only_two P Bitmask e one two = absurd (cc)
only_two P IntegerMenu e one two = absurd (cc)
only_two P U8 e one two = absurd (cc)

fits_32 : (v : ℤ) → FitsSigned w32 v → (negsuc (2 ^ 31 - 1) ≤ℤ v) × (v ≤ℤ pos (2 ^ 31 - 1))
fits_32 (pos n) h = (omega (arith, ints), omega (arith, ints, h.sfits))
fits_32 (negsuc n) h = (omega (arith, ints, h.sfits), omega (arith, ints))

to_32 : (v : ℤ) → negsuc (2 ^ 31 - 1) ≤ℤ v → v ≤ℤ pos (2 ^ 31 - 1) → FitsSigned w32 v
to_32 (pos n) low high = record { sfits = omega (arith, ints, high) }
to_32 (negsuc n) low high = record { sfits = omega (arith, ints, low) }

fits_64 : (v : ℤ) → FitsSigned w64 v → (negsuc (2 ^ 63 - 1) ≤ℤ v) × (v ≤ℤ pos (2 ^ 63 - 1))
fits_64 (pos n) h = (omega (arith, ints), omega (arith, ints, h.sfits))
fits_64 (negsuc n) h = (omega (arith, ints, h.sfits), omega (arith, ints))

to_64 : (v : ℤ) → negsuc (2 ^ 63 - 1) ≤ℤ v → v ≤ℤ pos (2 ^ 63 - 1) → FitsSigned w64 v
to_64 (pos n) low high = record { sfits = omega (arith, ints, high) }
to_64 (negsuc n) low high = record { sfits = omega (arith, ints, low) }

-- bounds that fit are of the kind, and those of the kind fit
has_bounds : (c : Control) (kind : Kind) → can_follow kind ≡ true → Fits kind c.minimum → Fits kind c.maximum → HasBounds kind c
has_bounds c kind e = only_two (λ k. Fits k c.minimum → Fits k c.maximum → HasBounds k c) kind e
    (λ low high. (to_32 c.minimum low.0 low.1, to_32 c.maximum high.0 high.1))
    (λ low high. (to_64 c.minimum low.0 low.1, to_64 c.maximum high.0 high.1))

bounds_fit : (c : Control) (kind : Kind) → can_follow kind ≡ true → HasBounds kind c → Fits kind c.minimum × Fits kind c.maximum
bounds_fit c kind e = only_two (λ k. HasBounds k c → Fits k c.minimum × Fits k c.maximum) kind e
    (λ bounds. (fits_32 c.minimum bounds.0, fits_32 c.maximum bounds.1))
    (λ bounds. (fits_64 c.minimum bounds.0, fits_64 c.maximum bounds.1))

-- the lesser and the greater are one of the two
lesser_both : (a b : ℤ) (P : ℤ → Type 0) → (a ≤ℤ b → P a) → (b <ℤ a → P b) → P (lesser a b)
lesser_both a b P first second = cond_both (int_lt b a) b a P (λ t. second (grind (arith, ints))) (λ f. first (grind (arith, ints)))

greater_both : (a b : ℤ) (P : ℤ → Type 0) → (b ≤ℤ a → P a) → (a <ℤ b → P b) → P (greater a b)
greater_both a b P first second = cond_both (int_lt a b) b a P (λ t. second (grind (arith, ints))) (λ f. first (grind (arith, ints)))

least_below : (kind : Kind) → can_follow kind ≡ true → least_of kind ≤ℤ most_of kind
least_below kind e = only_two (λ k. least_of k ≤ℤ most_of k) kind e (omega (arith, ints)) (omega (arith, ints))

-- what is cut fits
cut_fits : (kind : Kind) (v : ℤ) → can_follow kind ≡ true → Fits kind (cut kind v)
cut_fits kind v e =
    let low : least_of kind ≤ℤ greater v (least_of kind) = greater_both v (least_of kind) (λ x. least_of kind ≤ℤ x) (λ h. h) (λ h. omega (arith, ints)) in
    lesser_both (greater v (least_of kind)) (most_of kind) (Fits kind) (λ h. (low, h)) (λ h. (least_below kind e, omega (arith, ints)))

minimum_fits : (c : Control) (low : Option ℤ) (moves : Bool) → can_follow c.kind ≡ true → Fits c.kind c.minimum → Fits c.kind c.maximum → Fits c.kind (wanted_minimum c low moves)
minimum_fits c None moves e min max = min
minimum_fits c (Some low) true e min max = cut_fits c.kind low e
minimum_fits c (Some low) false e min max = lesser_both (cut c.kind low) c.maximum (Fits c.kind) (λ h. cut_fits c.kind low e) (λ h. max)

maximum_fits : (c : Control) (least : ℤ) (high : Option ℤ) → can_follow c.kind ≡ true → Fits c.kind least → Fits c.kind c.maximum → Fits c.kind (wanted_maximum c least high)
maximum_fits c least None e min max = max
maximum_fits c least (Some high) e min max = greater_both (cut c.kind high) least (Fits c.kind) (λ h. cut_fits c.kind high e) (λ h. min)

in_order : (c : Control) (low high : Option ℤ) → c.minimum ≤ℤ c.maximum → wanted_minimum c low (is_some high) ≤ℤ wanted_maximum c (wanted_minimum c low (is_some high)) high
in_order c None None order = order
in_order c (Some low) None order = lesser_both (cut c.kind low) c.maximum (λ x. x ≤ℤ c.maximum) (λ h. h) (λ h. omega (arith, ints))
in_order c low (Some high) order =
    let least : ℤ = wanted_minimum c low true in
    greater_both (cut c.kind high) least (λ x. least ≤ℤ x) (λ h. h) (λ h. omega (arith, ints))

-- a control with bounds that fit, and a default that it takes
pub sound : (c : Control) (low high number : ℤ) → IsWellFormed c → can_follow c.kind ≡ true → Fits c.kind low → Fits c.kind high → low ≤ℤ high
    → nearest (with_range c low high c.step number) number ≡ number → IsWellFormed (with_range c low high c.step number)
sound c low high number well e min max order own = record {
  in_order = order;
  stepped = well.stepped;
  fits_kind = record {
    bounds = has_bounds (with_range c low high c.step number) c.kind e min max;
    elems = well.fits_kind.elems;
    skip = well.fits_kind.skip;
    flags = well.fits_kind.flags;
  };
  default_settled = only_two (λ k. settle_as k (with_range c low high c.step number) number ≡ Ok number) c.kind e (ap Ok own) (ap Ok own);
}

-- what fits the type is a word of 64 bits, and reads back as it is
as_word : (kind : Kind) (v : ℤ) → can_follow kind ≡ true → Fits kind v → to_z w64 (of_z w64 v) ≡ v
as_word kind v e fit =
    to_z-of_z {w = w64} {z = v} (only_two (λ k. Fits k v → FitsSigned w64 v) kind e
    (λ h. to_64 v (omega (arith, ints, h.0)) (omega (arith, ints, h.1)))
    (λ h. to_64 v h.0 h.1) fit)

-- the bounds that are wanted, with the minimum as the default
pub bounds_sound : (c : Control) (low high : Option ℤ) → IsWellFormed c → can_follow c.kind ≡ true
    → IsWellFormed (with_range c (wanted_minimum c low (is_some high)) (wanted_maximum c (wanted_minimum c low (is_some high)) high) c.step (wanted_minimum c low (is_some high)))
bounds_sound c low high well e =
    let fit = bounds_fit c c.kind e well.fits_kind.bounds in
    let least : ℤ = wanted_minimum c low (is_some high) in
    let most : ℤ = wanted_maximum c least high in
    let order : least ≤ℤ most = in_order c low high well.in_order in
    let min = minimum_fits c low (is_some high) e fit.0 fit.1 in
    sound c least most least well e min (maximum_fits c least high e min fit.1) order
    (nearest-on_grid (with_range c least most c.step least) least (record { steps = (0, omega (arith, ints)); within = order }))

-- the range that is wanted
pub wanted_sound : (c : Control) (low high : Option ℤ) (number : ℤ) → IsWellFormed c → can_follow c.kind ≡ true → IsWellFormed (wanted_of c low high number)
wanted_sound c low high number well e =
    let fit = bounds_fit c c.kind e well.fits_kind.bounds in
    let least : ℤ = wanted_minimum c low (is_some high) in
    let most : ℤ = wanted_maximum c least high in
    let order : least ≤ℤ most = in_order c low high well.in_order in
    let min = minimum_fits c low (is_some high) e fit.0 fit.1 in
    let bounds : Control = with_range c least most c.step least in
    let default_value : ℤ = nearest bounds (cut c.kind number) in
    let on = (IsNearest-nearest bounds (cut c.kind number) order).on_grid in
    sound c least most default_value well e min (maximum_fits c least high e min fit.1) order
    (nearest-on_grid (with_range c least most c.step default_value) default_value (record { steps = on.steps; within = on.within }))

-- The same of the words that the code has: each is its number, written and read back.
record AreWanted (c : Control) (low high : Option ℤ) (least most : ℤ) : Type 0 where
  least_word : to_z w64 (of_z w64 least) ≡ least
  most_word : to_z w64 (of_z w64 most) ≡ most
  least_fits : Fits c.kind least
  most_fits : Fits c.kind most
  order : least ≤ℤ most
  is_least : least ≡ wanted_minimum c low (is_some high)
  is_most : most ≡ wanted_maximum c least high

are_wanted : (c : Control) (low high : Option ℤ) (least most : ℤ) → least ≡ wanted_minimum c low (is_some high) → most ≡ wanted_maximum c (to_z w64 (of_z w64 least)) high
    → IsWellFormed c → can_follow c.kind ≡ true → AreWanted c low high least most
are_wanted c low high least most is_least is_most well e =
    let fit = bounds_fit c c.kind e well.fits_kind.bounds in
    let min : Fits c.kind least = rw is_least (minimum_fits c low (is_some high) e fit.0 fit.1) in
    let word : to_z w64 (of_z w64 least) ≡ least = as_word c.kind least e min in
    let top : most ≡ wanted_maximum c least high = is_most ∙ ap (λ x. wanted_maximum c x high) word in
    let max : Fits c.kind most = rw top (maximum_fits c least high e min fit.1) in
    record {
      least_word = word;
      most_word = as_word c.kind most e max;
      least_fits = min;
      most_fits = max;
      order = rw (top, is_least) (in_order c low high well.in_order);
      is_least = is_least;
      is_most = top;
    }

pub bounds_of_words : (c : Control) (low high : Option ℤ) (least most : ℤ) → least ≡ wanted_minimum c low (is_some high) → most ≡ wanted_maximum c (to_z w64 (of_z w64 least)) high
    → IsWellFormed c → can_follow c.kind ≡ true
    → IsWellFormed (with_range c (to_z w64 (of_z w64 least)) (to_z w64 (of_z w64 most)) c.step (to_z w64 (of_z w64 least)))
bounds_of_words c low high least most is_least is_most well e =
    let are = are_wanted c low high least most is_least is_most well e in
    rw (are.least_word, are.most_word, are.is_most, are.is_least) (bounds_sound c low high well e)

-- what is found is one
pub same_found : {X : Type 0} (found : Option X) (a b : X) → found ≡ Some a → found ≡ Some b → a ≡ b
same_found found a b first second = cc

-- what the default is, within those bounds
record IsDefault (c : Control) (number least most default_value : ℤ) : Type 0 where
  word : to_z w64 (of_z w64 default_value) ≡ default_value
  is : default_value ≡ nearest (with_range c least most c.step least) (cut c.kind number)

is_default : (c bounds : Control) (low high : Option ℤ) (number least most cutted default_value : ℤ) (kind : Kind) → AreWanted c low high least most
    → bounds ≡ with_range c (to_z w64 (of_z w64 least)) (to_z w64 (of_z w64 most)) c.step (to_z w64 (of_z w64 least))
    → FitsSigned w128 number → kind ≡ c.kind → cutted ≡ cut kind (to_z w128 (of_z w128 number)) → default_value ≡ nearest bounds (to_z w64 (of_z w64 cutted))
    → can_follow c.kind ≡ true → IsDefault c number least most default_value
is_default c bounds low high number least most cutted default_value kind are is_bounds fits is_kind is_cut is e =
    let number_word : to_z w128 (of_z w128 number) ≡ number = to_z-of_z {w = w128} {z = number} fits in
    let cut_is : cutted ≡ cut c.kind number = is_cut ∙ ap (λ k. cut k (to_z w128 (of_z w128 number))) is_kind ∙ ap (cut c.kind) number_word in
    let cut_word : to_z w64 (of_z w64 cutted) ≡ cutted = as_word c.kind cutted e (rw cut_is (cut_fits c.kind number e)) in
    let whole : bounds ≡ with_range c least most c.step least = is_bounds ∙ ap (λ x. with_range c x (to_z w64 (of_z w64 most)) c.step x) are.least_word ∙ ap (λ y. with_range c least y c.step least) are.most_word in
    let so : default_value ≡ nearest (with_range c least most c.step least) (cut c.kind number) =
    is ∙ ap (λ b. nearest b (to_z w64 (of_z w64 cutted))) whole ∙ ap (nearest (with_range c least most c.step least)) (cut_word ∙ cut_is) in
    let within = nearest-within (with_range c least most c.step least) (cut c.kind number) are.order in
    let inside : Fits c.kind default_value = rw so (omega (arith, ints, within.0, are.least_fits.0), omega (arith, ints, within.1, are.most_fits.1)) in
    record { word = as_word c.kind default_value e inside; is = so }

pub wanted_of_words : (c bounds : Control) (low high : Option ℤ) (number least most cutted default_value : ℤ) (kind : Kind)
    → least ≡ wanted_minimum c low (is_some high) → most ≡ wanted_maximum c (to_z w64 (of_z w64 least)) high
    → bounds ≡ with_range c (to_z w64 (of_z w64 least)) (to_z w64 (of_z w64 most)) c.step (to_z w64 (of_z w64 least))
    → FitsSigned w128 number → kind ≡ c.kind → cutted ≡ cut kind (to_z w128 (of_z w128 number)) → default_value ≡ nearest bounds (to_z w64 (of_z w64 cutted))
    → IsWellFormed c → can_follow c.kind ≡ true
    → with_range c (to_z w64 (of_z w64 least)) (to_z w64 (of_z w64 most)) c.step (to_z w64 (of_z w64 default_value)) ≡ wanted_of c low high number
wanted_of_words c bounds low high number least most cutted default_value kind is_least is_most is_bounds fits is_kind is_cut is well e =
    let are = are_wanted c low high least most is_least is_most well e in
    let own = is_default c bounds low high number least most cutted default_value kind are is_bounds fits is_kind is_cut is e in
    rw (are.least_word, are.most_word, own.word, own.is, are.is_most, are.is_least) refl
