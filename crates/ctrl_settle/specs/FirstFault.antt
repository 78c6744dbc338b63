-- The first fault of a control, by tests that compute: as the law `first_faults` says, the one that `IsFirstFault` speaks of (of this project).
use Rattle.std.specs.Prelude.{ℕ, ◌-◌, ◌^◌, ◌==◌, ◌&&◌, ℤ, pos, negsuc, int_le, int_lt, Bool, true, false, not, if◌then◌else◌, Option, None, Some, is_some, nat_le, Result, Ok, Err}
use Rattle.std.specs.Ordering.{int_eq}
use Rattle.ctrl_types.specs.Flags.{union, intersects}
use Rattle.ctrl_types.specs.declared.bytes.TheConstants.{MAX_ELEMENTS}
use Rattle.ctrl_types.specs.declared.check.Check.{Check}
use Rattle.ctrl_types.specs.declared.flags.Flags.{Flags}
use Rattle.ctrl_types.specs.declared.flags.TheConstants.Flags.{GRABBED, INACTIVE}
use Rattle.ctrl_types.specs.declared.kind.Kind.{Kind}
use Rattle.ctrl_types.specs.declared.kind.Kind.TheVariants.{Integer, Boolean, Menu, Button, Integer64, Bitmask, IntegerMenu, U8}
use Rattle.ctrl_settle.specs.Control.{Control}
use Rattle.ctrl_settle.specs.Faults.{has_grid}
use Rattle.ctrl_settle.specs.Settle.{settle_as}
use Rattle.ctrl_settle.specs.declared.fault.CtrlFault.{CtrlFault}
use Rattle.ctrl_settle.specs.declared.fault.CtrlFault.TheVariants.{BadRange, ZeroStep, BadDefault, KindBounds}

-- whether a number lies from one to another
abbrev pub lies_between : ℤ → ℤ → ℤ → Bool
lies_between least most v = int_le least v && int_le v most

-- whether the control has just these bounds and this step
abbrev pub has_range : Control → ℤ → ℤ → ℕ → Bool
has_range c low high apart = int_eq c.minimum low && (int_eq c.maximum high && (c.step == apart))

-- whether the bounds are those of indices into a menu of 64 items at most
abbrev pub has_items : Control → Bool
has_items c = int_le (pos 0) c.minimum && (int_le c.maximum (pos 63) && (c.step == 1))

-- whether the maximum is a mask of some of 32 bits
abbrev pub has_mask : Control → Bool
has_mask c = int_eq c.minimum (pos 0) && (lies_between (pos 1) (pos (2 ^ 32 - 1)) c.maximum && (c.step == 0))

-- whether the bounds lie from one number to another
abbrev pub has_bounds_between : ℤ → ℤ → Control → Bool
has_bounds_between least most c = lies_between least most c.minimum && lies_between least most c.maximum

-- whether the bounds and the step are of the kind
abbrev pub has_bounds : Kind → Control → Bool
has_bounds Integer c = has_bounds_between (negsuc (2 ^ 31 - 1)) (pos (2 ^ 31 - 1)) c
has_bounds Integer64 c = has_bounds_between (negsuc (2 ^ 63 - 1)) (pos (2 ^ 63 - 1)) c
has_bounds Boolean c = has_range c (pos 0) (pos 1) 1
has_bounds Bitmask c = has_mask c
has_bounds Button c = has_range c (pos 0) (pos 0) 0
has_bounds Menu c = has_items c
has_bounds IntegerMenu c = has_items c
has_bounds U8 c = int_le (pos 0) c.minimum && int_le c.maximum (pos 255)

-- whether the kind may skip these items: only menus have any
abbrev pub can_skip : Kind → ℕ → Bool
can_skip Menu skip = true
can_skip IntegerMenu skip = true
can_skip _ skip = skip == 0

-- whether the kind may have so many elements
abbrev pub has_elems : Kind → Option ℕ → Bool
has_elems U8 None = false
has_elems U8 (Some n) = nat_le 1 n && nat_le n MAX_ELEMENTS
has_elems _ elems = not (is_some elems)

-- whether the flags may be declared
abbrev pub can_declare : Flags → Bool
can_declare flags = not (intersects flags (union GRABBED INACTIVE))

-- whether bounds, step, skipped items, elements and flags are of the control's kind
abbrev pub fits_kind : Control → Bool
fits_kind c = has_bounds c.kind c && (has_elems c.kind c.elems && (can_skip c.kind c.skip && can_declare c.flags))

-- whether an answer is this number
abbrev pub is_number : ℤ → Result ℤ Check → Bool
is_number v (Ok w) = int_eq w v
is_number v (Err _) = false

-- whether the control, or each element of it, takes the default as it is
abbrev pub takes_default : Control → Bool
takes_default c = is_number c.default_value (settle_as c.kind c c.default_value)

-- the first fault of a control, in the order in which they are looked for; none where nothing is wrong with it
abbrev pub first_fault : Control → Option CtrlFault
first_fault c =
    if int_lt c.maximum c.minimum then Some BadRange
    else if has_grid c.kind c.elems && (c.step == 0) then Some ZeroStep
    else if not (fits_kind c) then Some KindBounds
    else if not (takes_default c) then Some BadDefault
    else None
