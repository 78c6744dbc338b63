-- Whether a control is well formed can be tested, and so its first fault can be found.
use Rattle.std.proofs.Common.{Option, is_some, nat_le, ◌≡◌, ℕ, ◌+◌, ◌-◌, ◌*◌, ◌/◌, ◌%◌, ◌<◌, ◌≤◌, ◌^◌, ℤ, pos, negsuc, ◌≤ℤ◌, ◌<ℤ◌, Bool, true, false, IsTrue, Ok, Err, Result, None, Some, refl, sym, subst, ◌∙◌, FitsSigned, w32, w64, ap, arith, int_le, int_lt, nat_lt, not, ◌&&◌, ◌||◌, ◌==◌, ◌⊎◌, ⊎_elim, inl, inr}
use Rattle.std.specs.Bool.{Decides}
use Rattle.std.specs.Ordering.{int_eq}
use Rattle.std.proofs.lemmas.Bool.{cases_Bool, cases_lt, and_parts, or_cases, not-true, not_from_false, eqb-true, ltb-true, both_ways}
use Rattle.std.proofs.lemmas.Nat.{div-add-mod'}
use Rattle.std.proofs.lemmas.Bool.Decides.{Decides-and, Decides-like, Decides-eqb, Decides-int_eq, nat_tests, not_from_Decides}
use Rattle.std.proofs.lemmas.Int.{ints, by_lt_z}
use Rattle.ctrl_types.specs.Flags.{union, intersects}
use Rattle.ctrl_types.specs.declared.check.Check.{Check}
use Rattle.ctrl_types.specs.declared.flags.Flags.{Flags}
use Rattle.ctrl_types.specs.declared.flags.TheConstants.Flags.{GRABBED, INACTIVE}
use Rattle.ctrl_types.specs.declared.kind.Kind.{Kind}
use Rattle.ctrl_types.specs.declared.kind.Kind.TheVariants.{Integer, Boolean, Menu, Button, Integer64, Bitmask, IntegerMenu, U8}
use Rattle.ctrl_settle.specs.Control.{Control}
use Rattle.ctrl_settle.specs.Grid.{distance, IsOnGrid}
use Rattle.ctrl_settle.specs.Settle.{settle_as}
use Rattle.ctrl_settle.specs.Faults.{has_grid, HasRange, HasItems, HasMask, HasBounds, HasElems, TakesDefault, CanSkip, CanDeclare, FitsKind, IsWellFormed, HasFault, IsFirstFault, turn_of}
use Rattle.ctrl_settle.specs.FirstFault.{lies_between, has_range, has_items, has_mask, has_bounds, has_elems, can_skip, can_declare, fits_kind, is_number, takes_default, first_fault}
use Rattle.ctrl_settle.proofs.Settling.{nearest-on_grid}
use Rattle.ctrl_settle.specs.declared.fault.CtrlFault.{CtrlFault}
use Rattle.ctrl_settle.specs.declared.fault.CtrlFault.TheVariants.{BadRange, ZeroStep, BadDefault, KindBounds}

Decides-int_le : (a b : ℤ) → Decides (int_le a b) (a ≤ℤ b)
Decides-int_le a b = (λ e. grind (arith, ints), λ h. grind (arith, ints))

Decides-int_lt : (a b : ℤ) → Decides (int_lt a b) (a <ℤ b)
Decides-int_lt a b = (λ e. grind (arith, ints), λ h. grind (arith, ints))

Decides-between : (least most v : ℤ) → Decides (lies_between least most v) ((least ≤ℤ v) × (v ≤ℤ most))
Decides-between least most v = Decides-and (int_le least v) (int_le v most) (Decides-int_le least v) (Decides-int_le v most)

Decides-fits_32 : (v : ℤ) → Decides (lies_between (negsuc (2 ^ 31 - 1)) (pos (2 ^ 31 - 1)) v) (FitsSigned w32 v)
Decides-fits_32 (pos n) =
    Decides-like (lies_between (negsuc (2 ^ 31 - 1)) (pos (2 ^ 31 - 1)) (pos n))
    (λ p. record { sfits = omega (arith, ints, p.1) }) (λ h. (omega (arith, ints), omega (arith, ints, h.sfits)))
    (Decides-between (negsuc (2 ^ 31 - 1)) (pos (2 ^ 31 - 1)) (pos n))
Decides-fits_32 (negsuc n) =
    Decides-like (lies_between (negsuc (2 ^ 31 - 1)) (pos (2 ^ 31 - 1)) (negsuc n))
    (λ p. record { sfits = omega (arith, ints, p.0) }) (λ h. (omega (arith, ints, h.sfits), omega (arith, ints)))
    (Decides-between (negsuc (2 ^ 31 - 1)) (pos (2 ^ 31 - 1)) (negsuc n))

Decides-fits_64 : (v : ℤ) → Decides (lies_between (negsuc (2 ^ 63 - 1)) (pos (2 ^ 63 - 1)) v) (FitsSigned w64 v)
Decides-fits_64 (pos n) =
    Decides-like (lies_between (negsuc (2 ^ 63 - 1)) (pos (2 ^ 63 - 1)) (pos n))
    (λ p. record { sfits = omega (arith, ints, p.1) }) (λ h. (omega (arith, ints), omega (arith, ints, h.sfits)))
    (Decides-between (negsuc (2 ^ 63 - 1)) (pos (2 ^ 63 - 1)) (pos n))
Decides-fits_64 (negsuc n) =
    Decides-like (lies_between (negsuc (2 ^ 63 - 1)) (pos (2 ^ 63 - 1)) (negsuc n))
    (λ p. record { sfits = omega (arith, ints, p.0) }) (λ h. (omega (arith, ints, h.sfits), omega (arith, ints)))
    (Decides-between (negsuc (2 ^ 63 - 1)) (pos (2 ^ 63 - 1)) (negsuc n))

Decides-has_range : (c : Control) (low high : ℤ) (apart : ℕ) → Decides (has_range c low high apart) (HasRange c low high apart)
Decides-has_range c low high apart =
    Decides-like (has_range c low high apart)
    (λ p. record { minimum = p.0; maximum = p.1.0; step = p.1.1 }) (λ h. (h.minimum, (h.maximum, h.step)))
    (Decides-and (int_eq c.minimum low) (int_eq c.maximum high && (c.step == apart)) (Decides-int_eq c.minimum low)
    (Decides-and (int_eq c.maximum high) (c.step == apart) (Decides-int_eq c.maximum high) (Decides-eqb c.step apart)))

Decides-has_items : (c : Control) → Decides (has_items c) (HasItems c)
Decides-has_items c =
    Decides-like (has_items c)
    (λ p. record { minimum = p.0; maximum = p.1.0; step = p.1.1 }) (λ h. (h.minimum, (h.maximum, h.step)))
    (Decides-and (int_le (pos 0) c.minimum) (int_le c.maximum (pos 63) && (c.step == 1)) (Decides-int_le (pos 0) c.minimum)
    (Decides-and (int_le c.maximum (pos 63)) (c.step == 1) (Decides-int_le c.maximum (pos 63)) (Decides-eqb c.step 1)))

Decides-has_mask : (c : Control) → Decides (has_mask c) (HasMask c)
Decides-has_mask c =
    Decides-like (has_mask c)
    (λ p. record { minimum = p.0; not_empty = p.1.0.0; maximum = omega (arith, ints, p.1.0.1); step = p.1.1 })
    (λ h. (h.minimum, ((h.not_empty, omega (arith, ints, h.maximum)), h.step)))
    (Decides-and (int_eq c.minimum (pos 0)) (lies_between (pos 1) (pos (2 ^ 32 - 1)) c.maximum && (c.step == 0)) (Decides-int_eq c.minimum (pos 0))
    (Decides-and (lies_between (pos 1) (pos (2 ^ 32 - 1)) c.maximum) (c.step == 0) (Decides-between (pos 1) (pos (2 ^ 32 - 1)) c.maximum) (Decides-eqb c.step 0)))

Decides-has_bounds : (kind : Kind) (c : Control) → Decides (has_bounds kind c) (HasBounds kind c)
Decides-has_bounds Integer c =
    Decides-and (lies_between (negsuc (2 ^ 31 - 1)) (pos (2 ^ 31 - 1)) c.minimum) (lies_between (negsuc (2 ^ 31 - 1)) (pos (2 ^ 31 - 1)) c.maximum) (Decides-fits_32 c.minimum) (Decides-fits_32 c.maximum)
Decides-has_bounds Integer64 c =
    Decides-and (lies_between (negsuc (2 ^ 63 - 1)) (pos (2 ^ 63 - 1)) c.minimum) (lies_between (negsuc (2 ^ 63 - 1)) (pos (2 ^ 63 - 1)) c.maximum) (Decides-fits_64 c.minimum) (Decides-fits_64 c.maximum)
Decides-has_bounds Boolean c = Decides-has_range c (pos 0) (pos 1) 1
Decides-has_bounds Bitmask c = Decides-has_mask c
Decides-has_bounds Button c = Decides-has_range c (pos 0) (pos 0) 0
Decides-has_bounds Menu c = Decides-has_items c
Decides-has_bounds IntegerMenu c = Decides-has_items c
Decides-has_bounds U8 c = Decides-and (int_le (pos 0) c.minimum) (int_le c.maximum (pos 255)) (Decides-int_le (pos 0) c.minimum) (Decides-int_le c.maximum (pos 255))

Decides-nat_le : (m n : ℕ) → Decides (nat_le m n) (m ≤ n)
Decides-nat_le m n = (λ e. grind (arith, nat_tests, e), λ h. grind (arith, nat_tests, h))

Decides-none : (elems : Option ℕ) → Decides (not (is_some elems)) (elems ≡ None)
Decides-none None = (λ e. refl, λ h. refl)
Decides-none (Some n) = (λ e. absurd (cc), λ h. absurd (cc))

Decides-has_elems : (kind : Kind) (elems : Option ℕ) → Decides (has_elems kind elems) (HasElems kind elems)
Decides-has_elems U8 None = (λ e. absurd (cc), λ h. absurd h)
Decides-has_elems U8 (Some n) = Decides-and (nat_le 1 n) (nat_le n 32) (Decides-nat_le 1 n) (Decides-nat_le n 32)
Decides-has_elems Integer elems = Decides-none elems
Decides-has_elems Integer64 elems = Decides-none elems
Decides-has_elems Boolean elems = Decides-none elems
Decides-has_elems Button elems = Decides-none elems
Decides-has_elems Bitmask elems = Decides-none elems
Decides-has_elems Menu elems = Decides-none elems
Decides-has_elems IntegerMenu elems = Decides-none elems

Decides-can_skip : (kind : Kind) (skip : ℕ) → Decides (can_skip kind skip) (CanSkip kind skip)
Decides-can_skip Menu skip = (λ _. tt, λ _. refl)
Decides-can_skip IntegerMenu skip = (λ _. tt, λ _. refl)
Decides-can_skip Integer skip = Decides-eqb skip 0
Decides-can_skip Integer64 skip = Decides-eqb skip 0
Decides-can_skip Boolean skip = Decides-eqb skip 0
Decides-can_skip Bitmask skip = Decides-eqb skip 0
Decides-can_skip Button skip = Decides-eqb skip 0
Decides-can_skip U8 skip = Decides-eqb skip 0

Decides-can_declare : (flags : Flags) → Decides (can_declare flags) (CanDeclare flags)
Decides-can_declare flags = (λ e. not-true (intersects flags (union GRABBED INACTIVE)) e, λ h. not_from_false (intersects flags (union GRABBED INACTIVE)) h)

pub Decides-fits_kind : (c : Control) → Decides (fits_kind c) (FitsKind c)
Decides-fits_kind c =
    Decides-like (fits_kind c)
    (λ p. record { bounds = p.0; elems = p.1.0; skip = p.1.1.0; flags = p.1.1.1 }) (λ h. (h.bounds, (h.elems, (h.skip, h.flags))))
    (Decides-and (has_bounds c.kind c) (has_elems c.kind c.elems && (can_skip c.kind c.skip && can_declare c.flags)) (Decides-has_bounds c.kind c)
    (Decides-and (has_elems c.kind c.elems) (can_skip c.kind c.skip && can_declare c.flags) (Decides-has_elems c.kind c.elems)
    (Decides-and (can_skip c.kind c.skip) (can_declare c.flags) (Decides-can_skip c.kind c.skip) (Decides-can_declare c.flags))))

-- a test that decides a fact shows it, or that it doesn't hold
yes_or_no : {P : Type 0} (b : Bool) → Decides b P → P ⊎ (¬ P)
yes_or_no b d = ⊎_elim (λ (e : b ≡ true). inl (d.0 e)) (λ (e : b ≡ false). inr (not_from_Decides b d e)) (cases_Bool b)

Decides-number : (v : ℤ) (r : Result ℤ Check) → Decides (is_number v r) (r ≡ Ok v)
Decides-number v (Ok w) = (λ e. ap Ok ((Decides-int_eq w v).0 e), λ h. (Decides-int_eq w v).1 (cc))
Decides-number v (Err e) = (λ h. absurd (cc), λ h. absurd (cc))

-- whether an answer is this number
answers : (r : Result ℤ Check) (v : ℤ) → (r ≡ Ok v) ⊎ (¬ (r ≡ Ok v))
answers r v = yes_or_no (is_number v r) (Decides-number v r)

-- each fault is the first where it holds and those before it don't
first-bad_range : (c : Control) → HasFault c BadRange → IsFirstFault c BadRange
first-bad_range c h = record { holds = h; first = λ other lt. absurd (omega arith) }

first-zero_step : (c : Control) → HasFault c ZeroStep → ¬ HasFault c BadRange → IsFirstFault c ZeroStep
first-zero_step c h no_range = record { holds = h; first = earlier } where
  earlier : (other : CtrlFault) → turn_of other < 1 → ¬ HasFault c other
  earlier BadRange lt = no_range
  earlier ZeroStep lt = absurd (omega arith)
  earlier KindBounds lt = absurd (omega arith)
  earlier BadDefault lt = absurd (omega arith)

first-kind_bounds : (c : Control) → HasFault c KindBounds → ¬ HasFault c BadRange → ¬ HasFault c ZeroStep → IsFirstFault c KindBounds
first-kind_bounds c h no_range no_zero = record { holds = h; first = earlier } where
  earlier : (other : CtrlFault) → turn_of other < 2 → ¬ HasFault c other
  earlier BadRange lt = no_range
  earlier ZeroStep lt = no_zero
  earlier KindBounds lt = absurd (omega arith)
  earlier BadDefault lt = absurd (omega arith)

first-bad_default : (c : Control) → HasFault c BadDefault → ¬ HasFault c BadRange → ¬ HasFault c ZeroStep → ¬ HasFault c KindBounds → IsFirstFault c BadDefault
first-bad_default c h no_range no_zero no_bounds = record { holds = h; first = earlier } where
  earlier : (other : CtrlFault) → turn_of other < 3 → ¬ HasFault c other
  earlier BadRange lt = no_range
  earlier ZeroStep lt = no_zero
  earlier KindBounds lt = no_bounds
  earlier BadDefault lt = absurd (omega arith)

pub well_formed_or_first_fault : (c : Control) → IsWellFormed c ⊎ ((f : CtrlFault) × IsFirstFault c f)
well_formed_or_first_fault c =
    by_lt_z c.maximum c.minimum (λ bad. inr (BadRange, first-bad_range c bad)) (λ in_order.
    let no_range : ¬ HasFault c BadRange = λ bad. omega (arith, ints) in
    ⊎_elim
    (λ (zero_step : IsTrue (has_grid c.kind c.elems) × (c.step ≡ 0)). inr (ZeroStep, first-zero_step c zero_step no_range))
    (λ (no_zero : ¬ (IsTrue (has_grid c.kind c.elems) × (c.step ≡ 0))).
    ⊎_elim
    (λ (fits : FitsKind c).
    ⊎_elim
    (λ (settled : TakesDefault c). inl (record { in_order = in_order; stepped = λ on. ⊎_elim (λ (none : c.step < 1). absurd (no_zero (on, omega arith))) (λ (some : 1 ≤ c.step). some) (cases_lt c.step 1); fits_kind = fits; default_settled = settled }))
    (λ (unsettled : ¬ TakesDefault c). inr (BadDefault, first-bad_default c unsettled no_range no_zero (λ no. no fits)))
    (answers (settle_as c.kind c c.default_value) c.default_value))
    (λ (unfit : ¬ FitsKind c). inr (KindBounds, first-kind_bounds c unfit no_range no_zero))
    (yes_or_no (fits_kind c) (Decides-fits_kind c)))
    (yes_or_no (has_grid c.kind c.elems && (c.step == 0)) (Decides-and (has_grid c.kind c.elems) (c.step == 0) (λ e. e, λ e. e) (Decides-eqb c.step 0))))

-- what doesn't hold is tested so, and what doesn't not hold
no : {P : Type 0} (b : Bool) → Decides b P → (¬ P) → b ≡ false
no true d none = absurd (none (d.0 refl))
no false d none = refl

double : {P : Type 0} (b : Bool) → Decides b P → (¬ (¬ P)) → b ≡ true
double true d some = refl
double false d some = absurd (some (not_from_Decides false d refl))

-- the tests for faults of which the control has none
no_range : (c : Control) → (¬ HasFault c BadRange) → int_lt c.maximum c.minimum ≡ false
no_range c h = no (int_lt c.maximum c.minimum) (Decides-int_lt c.maximum c.minimum) h

no_zero : (c : Control) → (¬ HasFault c ZeroStep) → (has_grid c.kind c.elems && (c.step == 0)) ≡ false
no_zero c h = no (has_grid c.kind c.elems && (c.step == 0)) (Decides-and (has_grid c.kind c.elems) (c.step == 0) (λ e. e, λ e. e) (Decides-eqb c.step 0)) h

no_bounds : (c : Control) → (¬ HasFault c KindBounds) → fits_kind c ≡ true
no_bounds c h = double (fits_kind c) (Decides-fits_kind c) h

-- nothing is found where nothing is wrong
pub nothing_found : (c : Control) → IsWellFormed c → first_fault c ≡ None
nothing_found c well =
    rw (
      no_range c (λ bad. omega (arith, ints, well.in_order, bad)),
      no_zero c (λ bad. omega (arith, well.stepped bad.0, bad.1)),
      (Decides-fits_kind c).1 well.fits_kind,
      (Decides-number c.default_value (settle_as c.kind c c.default_value)).1 well.default_settled,
    )
    refl

-- the first fault is found
pub fault_found : (c : Control) (f : CtrlFault) → IsFirstFault c f → first_fault c ≡ Some f
fault_found c BadRange first = rw ((Decides-int_lt c.maximum c.minimum).1 first.holds) refl
fault_found c ZeroStep first =
    rw (no_range c (first.first BadRange (omega arith)), (Decides-and (has_grid c.kind c.elems) (c.step == 0) (λ e. e, λ e. e) (Decides-eqb c.step 0)).1 first.holds) refl
fault_found c KindBounds first =
    rw (no_range c (first.first BadRange (omega arith)), no_zero c (first.first ZeroStep (omega arith)), no (fits_kind c) (Decides-fits_kind c) first.holds) refl
fault_found c BadDefault first =
    rw (
      no_range c (first.first BadRange (omega arith)),
      no_zero c (first.first ZeroStep (omega arith)),
      no_bounds c (first.first KindBounds (omega arith)),
      no (takes_default c) (Decides-number c.default_value (settle_as c.kind c c.default_value)) first.holds,
    )
    refl

-- where nothing is found, nothing is wrong
pub well_formed_where_none : (c : Control) → first_fault c ≡ None → IsWellFormed c
well_formed_where_none c none = ⊎_elim (λ (well : IsWellFormed c). well) (λ (first : (f : CtrlFault) × IsFirstFault c f). absurd (differ (sym none ∙ fault_found c first.0 first.1))) (well_formed_or_first_fault c)
  where
    differ : {f : CtrlFault} → None ≡ Some f → ⊥
    differ e = cc

-- what is found is the first fault
pub first_fault_where_found : (c : Control) (f : CtrlFault) → first_fault c ≡ Some f → IsFirstFault c f
first_fault_where_found c f found =
    ⊎_elim (λ (well : IsWellFormed c). absurd (differ (sym (nothing_found c well) ∙ found)))
    (λ (first : (g : CtrlFault) × IsFirstFault c g). subst (IsFirstFault c) (same (sym (fault_found c first.0 first.1) ∙ found)) first.1)
    (well_formed_or_first_fault c)
  where
    differ : None ≡ Some f → ⊥
    differ e = cc

    same : {g : CtrlFault} → Some g ≡ Some f → g ≡ f
    same e = cc

-- the value stands on the grid: for a control that is written out, this computes
abbrev is_on_grid : Control → ℤ → Bool
is_on_grid c v = int_le c.minimum v && (int_le v c.maximum && (distance v c.minimum % c.step == 0))

IsOnGrid-test : (c : Control) (v : ℤ) → is_on_grid c v ≡ true → IsOnGrid c v
IsOnGrid-test c v e =
    let p = and_parts (int_le c.minimum v) (int_le v c.maximum && (distance v c.minimum % c.step == 0)) e in
    let q = and_parts (int_le v c.maximum) (distance v c.minimum % c.step == 0) p.1 in
    let from_minimum = (Decides-int_le c.minimum v).0 p.0 in
    let rest = eqb-true (distance v c.minimum % c.step) 0 q.1 in
    let parts : distance v c.minimum / c.step * c.step + distance v c.minimum % c.step ≡ distance v c.minimum = div-add-mod' (distance v c.minimum) c.step in
    record { steps = (distance v c.minimum / c.step, omega (arith, ints)); within = (Decides-int_le v c.maximum).0 q.0 }

is_number-true : (r : Result ℤ Check) (v : ℤ) → is_number v r ≡ true → r ≡ Ok v
is_number-true r v e = (Decides-number v r).0 e

-- a control of this kind takes the value as it is
abbrev takes : Kind → Control → ℤ → Bool
takes Integer c v = is_on_grid c v
takes Integer64 c v = is_on_grid c v
takes U8 c v = is_on_grid c v
takes kind c v = is_number v (settle_as kind c v)

settled-test : (kind : Kind) (c : Control) (v : ℤ) → takes kind c v ≡ true → settle_as kind c v ≡ Ok v
settled-test Integer c v e = ap Ok (nearest-on_grid c v (IsOnGrid-test c v e))
settled-test Integer64 c v e = ap Ok (nearest-on_grid c v (IsOnGrid-test c v e))
settled-test U8 c v e = ap Ok (nearest-on_grid c v (IsOnGrid-test c v e))
settled-test Boolean c v e = is_number-true (settle_as Boolean c v) v e
settled-test Button c v e = is_number-true (settle_as Button c v) v e
settled-test Bitmask c v e = is_number-true (settle_as Bitmask c v) v e
settled-test Menu c v e = is_number-true (settle_as Menu c v) v e
settled-test IntegerMenu c v e = is_number-true (settle_as IntegerMenu c v) v e

-- whether a control is well formed: for one that is written out, this computes
abbrev pub is_well_formed : Control → Bool
is_well_formed c =
    int_le c.minimum c.maximum && ((not (has_grid c.kind c.elems) || nat_lt 0 c.step) && (fits_kind c && takes c.kind c c.default_value))

-- so `IsWellFormed-test c refl` shows it
pub IsWellFormed-test : (c : Control) → is_well_formed c ≡ true → IsWellFormed c
IsWellFormed-test c e =
    let p = and_parts (int_le c.minimum c.maximum) ((not (has_grid c.kind c.elems) || nat_lt 0 c.step) && (fits_kind c && takes c.kind c c.default_value)) e in
    let q = and_parts (not (has_grid c.kind c.elems) || nat_lt 0 c.step) (fits_kind c && takes c.kind c c.default_value) p.1 in
    let r = and_parts (fits_kind c) (takes c.kind c c.default_value) q.1 in
    record {
      in_order = (Decides-int_le c.minimum c.maximum).0 p.0;
      stepped = λ on. ⊎_elim
          (λ (off : not (has_grid c.kind c.elems) ≡ true). absurd (both_ways (has_grid c.kind c.elems) (not-true (has_grid c.kind c.elems) off) on))
          (λ (some : nat_lt 0 c.step ≡ true). ltb-true 0 c.step some)
          (or_cases (not (has_grid c.kind c.elems)) (nat_lt 0 c.step) q.0);
      fits_kind = (Decides-fits_kind c).0 r.0;
      default_settled = settled-test c.kind c c.default_value r.1;
    }
