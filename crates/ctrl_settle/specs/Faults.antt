-- What can be wrong with a control's description, and in which order it is looked for. What a kind allows stands in
-- Linux userspace API, "enum v4l2_ctrl_type"; the faults, their order and the limit of 64 items are this project's.
use Rattle.std.specs.Prelude.{◌≡◌, ℕ, ◌<◌, ◌^◌, ℤ, pos, ◌≤ℤ◌, ◌<ℤ◌, FitsSigned, Bool, true, false, IsTrue, IsFalse, ◌≤◌, Option, None, Some, is_some, Ok}
use Rattle.std.specs.Int.{w32, w64}
use Rattle.ctrl_types.specs.Flags.{union, intersects}
use Rattle.ctrl_types.specs.declared.flags.Flags.{Flags}
use Rattle.ctrl_types.specs.declared.flags.TheConstants.Flags.{GRABBED, INACTIVE}
use Rattle.ctrl_types.specs.declared.kind.Kind.{Kind}
use Rattle.ctrl_types.specs.declared.kind.Kind.TheVariants.{Integer, Boolean, Menu, Button, Integer64, Bitmask, IntegerMenu, U8}
use Rattle.ctrl_types.specs.declared.bytes.TheConstants.{MAX_ELEMENTS}
use Rattle.ctrl_types.specs.declared.check.Check.{Check}
use Rattle.ctrl_types.specs.declared.check.Check.TheVariants.{RangeReversed, RangeStepZero, RangeNotOfKind, RangeDefaultNotTaken}
use Rattle.ctrl_settle.specs.Control.{Control}
use Rattle.ctrl_settle.specs.Settle.{settle_as}
use Rattle.ctrl_settle.specs.declared.fault.CtrlFault.{CtrlFault}
use Rattle.ctrl_settle.specs.declared.fault.CtrlFault.TheVariants.{BadRange, ZeroStep, BadDefault, KindBounds}

-- whether the values of the kind lie on a grid; of an array only where it is described as one
abbrev pub has_grid : Kind → Option ℕ → Bool
has_grid Integer elems = true
has_grid Integer64 elems = true
has_grid U8 elems = is_some elems
has_grid _ elems = false

-- the control has just these bounds and this step
pub record HasRange (c : Control) (low high : ℤ) (apart : ℕ) : Type 0 where
  pub minimum : c.minimum ≡ low
  pub maximum : c.maximum ≡ high
  pub step : c.step ≡ apart

-- the bounds are those of indices into a menu of 64 items at most
pub record HasItems (c : Control) : Type 0 where
  pub minimum : pos 0 ≤ℤ c.minimum
  pub maximum : c.maximum ≤ℤ pos 63
  pub step : c.step ≡ 1

-- the maximum is a mask of some of 32 bits
pub record HasMask (c : Control) : Type 0 where
  pub minimum : c.minimum ≡ pos 0
  pub not_empty : pos 1 ≤ℤ c.maximum
  pub maximum : c.maximum <ℤ pos (2 ^ 32)
  pub step : c.step ≡ 0

-- the bounds and the step are of the kind
abbrev pub HasBounds : Kind → Control → Type 0
HasBounds Integer c = FitsSigned w32 c.minimum × FitsSigned w32 c.maximum
HasBounds Integer64 c = FitsSigned w64 c.minimum × FitsSigned w64 c.maximum
HasBounds Boolean c = HasRange c (pos 0) (pos 1) 1
HasBounds Bitmask c = HasMask c
HasBounds Button c = HasRange c (pos 0) (pos 0) 0
HasBounds Menu c = HasItems c
HasBounds IntegerMenu c = HasItems c
HasBounds U8 c = (pos 0 ≤ℤ c.minimum) × (c.maximum ≤ℤ pos 255)

-- only menus have items to skip
abbrev pub CanSkip : Kind → ℕ → Type 0
CanSkip Menu skip = Unit {0}
CanSkip IntegerMenu skip = Unit {0}
CanSkip _ skip = skip ≡ 0

-- an array has 1 to 32 elements, and no other control any
abbrev pub HasElems : Kind → Option ℕ → Type 0
HasElems U8 None = ⊥
HasElems U8 (Some n) = (1 ≤ n) × (n ≤ MAX_ELEMENTS)
HasElems _ elems = elems ≡ None

-- no control starts grabbed or inactive: these two come and go while the device runs
abbrev pub CanDeclare : Flags → Type 0
CanDeclare flags = IsFalse (intersects flags (union GRABBED INACTIVE))

-- bounds, step, skipped items, elements and flags are of the control's kind
pub record FitsKind (c : Control) : Type 0 where
  pub bounds : HasBounds c.kind c
  pub elems : HasElems c.kind c.elems
  pub skip : CanSkip c.kind c.skip
  pub flags : CanDeclare c.flags

-- the control, or each element of it, takes the default as it is
abbrev pub TakesDefault : Control → Type 0
TakesDefault c = settle_as c.kind c c.default_value ≡ Ok c.default_value

-- nothing is wrong with the control
pub record IsWellFormed (c : Control) : Type 0 where
  pub in_order : c.minimum ≤ℤ c.maximum
  pub stepped : IsTrue (has_grid c.kind c.elems) → 0 < c.step
  pub fits_kind : FitsKind c
  pub default_settled : TakesDefault c

-- this is wrong with the control
abbrev pub HasFault : Control → CtrlFault → Type 0
HasFault c BadRange = c.maximum <ℤ c.minimum
HasFault c ZeroStep = IsTrue (has_grid c.kind c.elems) × (c.step ≡ 0)
HasFault c KindBounds = ¬ FitsKind c
HasFault c BadDefault = ¬ TakesDefault c

-- how many other faults are looked for before this one
abbrev pub turn_of : CtrlFault → ℕ
turn_of BadRange = 0
turn_of ZeroStep = 1
turn_of KindBounds = 2
turn_of BadDefault = 3

-- the control has this fault and none that is looked for before it
pub record IsFirstFault (c : Control) (fault : CtrlFault) : Type 0 where
  pub holds : HasFault c fault
  pub first : (other : CtrlFault) → turn_of other < turn_of fault → ¬ HasFault c other

-- a fault's number
abbrev pub fault_number : CtrlFault → ℕ
fault_number BadRange = 1
fault_number ZeroStep = 2
fault_number BadDefault = 3
fault_number KindBounds = 4

-- the check that a range with this fault is refused by
abbrev pub range_check_of : CtrlFault → Check
range_check_of BadRange = RangeReversed
range_check_of ZeroStep = RangeStepZero
range_check_of BadDefault = RangeDefaultNotTaken
range_check_of KindBounds = RangeNotOfKind
