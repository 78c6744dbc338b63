-- The row of a cluster under values that are asked for (Linux driver API, "V4L2 Controls", "Control Clusters").
use Rattle.std.specs.Prelude.{◌≡◌, ℕ, Bool, false, length, ◌==◌, if◌then◌else◌, List, [], ◌∷◌, map, Option, None, Some, Result, Ok, Err, slice_index_or, unwrap_or}
use Rattle.ctrl_types.specs.Values.{zero_value}
use Rattle.ctrl_types.specs.declared.value.CtrlValue.{CtrlValue}
use Rattle.ctrl_types.specs.Pairs.{last_value}
use Rattle.ctrl_types.specs.declared.errno.Errno.{Errno}
use Rattle.ctrl_types.specs.declared.errno.Errno.TheVariants.{EINVAL}
use Rattle.ctrl_types.specs.declared.ids.Pair.{Pair}
use Rattle.ctrl_settle.specs.Control.{Control}
use Rattle.ctrl_settle.specs.Settle.{settle}
use Rattle.ctrl_handlers.specs.Plan.{PlanData, control_in}

-- The controls of a plan as they are at a moment: as many, each with the id, the kind, the flags, the skipped items and the number of elements that the plan
-- gives it; its bounds, step and default may be others.
pub record AreControlsOf (plan : PlanData) (controls : List Control) : Type 0 where
  pub many : length controls ≡ length plan.controls
  pub ids : map (λ c. c.id) controls ≡ map (λ c. c.id) plan.controls
  pub kinds : map (λ c. c.kind) controls ≡ map (λ c. c.kind) plan.controls
  pub flags : map (λ c. c.flags) controls ≡ map (λ c. c.flags) plan.controls
  pub skipped : map (λ c. c.skip) controls ≡ map (λ c. c.skip) plan.controls
  pub elems : map (λ c. c.elems) controls ≡ map (λ c. c.elems) plan.controls

-- a value for each control, in the order of their numbers
abbrev pub Values : Type 0
Values = List CtrlValue

-- the value of one control
abbrev pub value_at : Values → ℕ → CtrlValue
value_at values c = slice_index_or values c zero_value

-- for each control, in the order of their numbers, whether it is grabbed
abbrev pub Grabs : Type 0
Grabs = List Bool

-- whether one control is
abbrev pub is_grabbed : Grabs → ℕ → Bool
is_grabbed grabs c = slice_index_or grabs c false

-- the values of some controls
abbrev pub row_of : Values → List ℕ → List CtrlValue
row_of values members = map (value_at values) members

-- The same, overwritten by pairs: the last pair of a control counts.
abbrev pub overwritten : Values → List Pair → List ℕ → List CtrlValue
overwritten values pairs members = map (λ c. unwrap_or (last_value pairs c) (value_at values c)) members

-- one settled value before others; the errno of the first stands
abbrev pub settled_before : Result CtrlValue Errno → Result (List CtrlValue) Errno → Result (List CtrlValue) Errno
settled_before (Err errno) rest = Err errno
settled_before (Ok v) (Err errno) = Err errno
settled_before (Ok v) (Ok vs) = Ok (v ∷ vs)

-- What the members take for the values of a row, settled in member order: the errno is that of the first that doesn't settle.
abbrev pub settle_row : List Control → List ℕ → List CtrlValue → Result (List CtrlValue) Errno
settle_row controls [] row = Ok []
settle_row controls (c ∷ cs) [] = Err EINVAL
settle_row controls (c ∷ cs) (v ∷ vs) = settled_before (settle (control_in controls c) v) (settle_row controls cs vs)

-- the value that a row gives one of the members
abbrev pub member_value : List ℕ → List CtrlValue → ℕ → Option CtrlValue
member_value [] row c = None
member_value (m ∷ ms) [] c = None
member_value (m ∷ ms) (v ∷ vs) c = if m == c then Some v else member_value ms vs c
