-- That what holds of a finished plan has one proof at most, so that a moment can keep it.
use Rattle.std.specs.Prelude.{ℕ, Option, None, Some}
use Rattle.std.proofs.Props.{props}
use Rattle.ctrl_types.specs.declared.kind.Kind.{Kind}
use Rattle.ctrl_types.specs.declared.kind.Kind.TheVariants.{Integer, Boolean, Menu, Button, Integer64, Bitmask, IntegerMenu, U8}
use Rattle.ctrl_settle.specs.Control.{Control}
use Rattle.ctrl_settle.specs.Faults.{HasBounds, CanSkip, HasElems}

pub HasBounds-prop : (kind : Kind) (c : Control) → IsProp (HasBounds kind c)
HasBounds-prop Integer c = hlevel props
HasBounds-prop Integer64 c = hlevel props
HasBounds-prop Boolean c = hlevel props
HasBounds-prop Bitmask c = hlevel props
HasBounds-prop Button c = hlevel props
HasBounds-prop Menu c = hlevel props
HasBounds-prop IntegerMenu c = hlevel props
HasBounds-prop U8 c = hlevel props

pub CanSkip-prop : (kind : Kind) (skip : ℕ) → IsProp (CanSkip kind skip)
CanSkip-prop Integer skip = hlevel props
CanSkip-prop Integer64 skip = hlevel props
CanSkip-prop Boolean skip = hlevel props
CanSkip-prop Bitmask skip = hlevel props
CanSkip-prop Button skip = hlevel props
CanSkip-prop Menu skip = hlevel props
CanSkip-prop IntegerMenu skip = hlevel props
CanSkip-prop U8 skip = hlevel props

pub HasElems-prop : (kind : Kind) (elems : Option ℕ) → IsProp (HasElems kind elems)
HasElems-prop Integer elems = hlevel props
HasElems-prop Integer64 elems = hlevel props
HasElems-prop Boolean elems = hlevel props
HasElems-prop Bitmask elems = hlevel props
HasElems-prop Button elems = hlevel props
HasElems-prop Menu elems = hlevel props
HasElems-prop IntegerMenu elems = hlevel props
HasElems-prop U8 None = hlevel props
HasElems-prop U8 (Some n) = hlevel props

pub ruleset plan_props = (HasBounds-prop, CanSkip-prop, HasElems-prop, props)
