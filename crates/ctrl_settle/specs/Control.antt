-- A control as its driver describes it (Linux userspace API, "struct v4l2_query_ext_ctrl").
use Rattle.std.specs.Prelude.{ℕ, ℤ, Bool, Option, None, Some, is_some, replicate, unsigned_abs, unwrap_or}
use Rattle.ctrl_types.specs.Flags.{union}
use Rattle.ctrl_types.specs.declared.value.CtrlValue.{CtrlValue}
use Rattle.ctrl_types.specs.declared.value.CtrlValue.TheVariants.{Number, Bytes}
use Rattle.ctrl_types.specs.declared.flags.Flags.{Flags}
use Rattle.ctrl_types.specs.declared.flags.TheConstants.Flags.{WRITE_ONLY, EXECUTE_ON_WRITE}
use Rattle.ctrl_types.specs.declared.ids.CtrlId.{CtrlId}
use Rattle.ctrl_types.specs.declared.kind.Kind.{Kind}
use Rattle.ctrl_types.specs.declared.kind.Kind.TheVariants.{Button, U8}
use Rattle.ctrl_settle.specs.declared.config.CtrlConfig.{CtrlConfig}

-- what a driver says of it, field by field
abbrev pub Control : Type 0
Control = CtrlConfig

-- the flags of a control that is given these: a button can only be written, and acts on each write
abbrev pub flags_of : Kind → Flags → Flags
flags_of Button given = union given (union WRITE_ONLY EXECUTE_ON_WRITE)
flags_of _ given = given

-- the control that named fields describe: a button has its own flags besides
abbrev pub control_of : CtrlConfig → Control
control_of c = record c { flags = flags_of c.kind c.flags }

-- the control that these describe
abbrev pub described : CtrlId → Kind → ℤ → ℤ → ℕ → ℤ → ℕ → Flags → Bool → Control
described id kind minimum maximum step default_value skip flags is_private = record {
  id = id;
  kind = kind;
  minimum = minimum;
  maximum = maximum;
  step = step;
  default_value = default_value;
  skip = skip;
  flags = flags_of kind flags;
  is_private = is_private;
  elems = None;
}

-- the array of bytes that these describe
abbrev pub described_array : CtrlId → ℕ → ℤ → ℤ → ℕ → ℤ → Flags → Bool → Control
described_array id elems minimum maximum step default_value flags is_private = record {
  id = id;
  kind = U8;
  minimum = minimum;
  maximum = maximum;
  step = step;
  default_value = default_value;
  skip = 0;
  flags = flags;
  is_private = is_private;
  elems = Some elems;
}

-- the control with another range; all else of it stays
abbrev pub with_range : Control → ℤ → ℤ → ℕ → ℤ → Control
with_range c minimum maximum step default_value = record c { minimum = minimum; maximum = maximum; step = step; default_value = default_value }

-- a default, as a value of so many elements
abbrev pub default_of_elems : ℤ → Option ℕ → CtrlValue
default_of_elems default_value None = Number default_value
default_of_elems default_value (Some n) = Bytes (replicate n (unsigned_abs default_value))

-- the default of a control, as a value: of an array it stands in each element
abbrev pub default_of : Control → CtrlValue
default_of c = default_of_elems c.default_value c.elems

-- how many elements the value of a control has: 1 where it is no array
abbrev pub elems_of : Control → ℕ
elems_of c = unwrap_or c.elems 1

-- the control is an array
abbrev pub is_array : Control → Bool
is_array c = is_some c.elems
