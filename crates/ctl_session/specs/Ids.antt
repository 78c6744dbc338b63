-- Which control an id of a call speaks of (Linux userspace API, "ioctls VIDIOC_QUERYCTRL, VIDIOC_QUERY_EXT_CTRL and VIDIOC_QUERYMENU").
use Rattle.std.specs.Prelude.{◌==◌, ◌&&◌, ◌||◌, ℕ, ◌-◌, Bool, true, false, not, if◌then◌else◌, min, nat_lt, nat_le, bit_and, List, length, Option, None, Some, unwrap_or}
use Rattle.std.specs.List.{filter, find as first_that}
use Rattle.std.specs.Option.{option_map}
use Rattle.ctrl_types.specs.Classes.{class_of}
use Rattle.ctrl_types.specs.declared.bytes.TheConstants.{MAX_ELEMENTS}
use Rattle.ctrl_types.specs.declared.ids.CtrlId.{CtrlId}
use Rattle.ctrl_types.specs.declared.kind.Kind.{Kind}
use Rattle.ctrl_types.specs.declared.kind.Kind.TheVariants.{Integer64, U8}
use Rattle.ctrl_settle.specs.Control.{Control, elems_of}
use Rattle.ctrl_handlers.specs.Plan.{PlanData, control, control_in, ids_of}
use Rattle.ctrl_handlers.specs.Visible.{find, least_above, visible}
use Rattle.call_structs.specs.declared.entries.Form.{Form}
use Rattle.call_structs.specs.declared.entries.Form.TheVariants.{Narrow, Wide, Array}
use Rattle.ioctl_bytes.specs.declared.calls.TheConstants.{V4L2_CID_PRIVATE_BASE, V4L2_CTRL_CLASS_USER, V4L2_CTRL_FLAG_NEXT_COMPOUND, V4L2_CTRL_FLAG_NEXT_CTRL, V4L2_CTRL_ID_MASK}

-- the control that a handler shows under an id
abbrev pub shown : PlanData → ℕ → CtrlId → Option Control
shown plan h id = option_map (control plan) (find plan h id)

-- what the entry of a control has its value in: a number of 64 bits its wide field, an array a payload of its elements, every other number the narrow field
abbrev pub form_of_kind : Kind → ℕ → Form
form_of_kind Integer64 elems = Wide
form_of_kind U8 elems = Array (min elems MAX_ELEMENTS)
form_of_kind _ elems = Narrow

-- what the entry of a control that is shown has its value in; where none is, the narrow field
abbrev pub form_of_shown : Option Control → Form
form_of_shown None = Narrow
form_of_shown (Some ctrl) = form_of_kind ctrl.kind (elems_of ctrl)

abbrev pub form_by_id : PlanData → ℕ → CtrlId → Form
form_by_id plan h id = form_of_shown (shown plan h id)

-- whether the value of a control is a number of 32 bits
abbrev pub is_narrow : Form → Bool
is_narrow Narrow = true
is_narrow _ = false

-- whether a control is wanted: an array, or anything else
abbrev pub is_wanted : Bool → Bool → Kind → Bool
is_wanted numbers arrays U8 = arrays
is_wanted numbers arrays _ = numbers

-- the least id behind another one of the wanted controls that a handler shows
abbrev pub next_wanted : PlanData → ℕ → ℕ → Bool → Bool → Option CtrlId
next_wanted plan h behind numbers arrays =
    option_map (λ n. record { 0 = n }) (least_above behind (ids_of plan.controls (filter (λ c. is_wanted numbers arrays (control plan c).kind) (visible plan h))))

-- whether an id has a flag
abbrev pub has_flag : ℕ → ℕ → Bool
has_flag id flag = not (bit_and id flag == 0)

-- whether a control is one of the driver's own of the user class, whose value is a number of 32 bits
abbrev pub is_private_user : Control → Bool
is_private_user ctrl =
    class_of ctrl.id.0 == V4L2_CTRL_CLASS_USER
    && nat_le 0x1000 (bit_and ctrl.id.0 0xffff)
    && is_narrow (form_of_kind ctrl.kind (elems_of ctrl))

-- how many of such controls among some have an id below another one
abbrev pub private_below : List Control → List ℕ → ℕ → ℕ
private_below controls numbers id = length (filter (λ c. is_private_user (control_in controls c) && nat_lt (control_in controls c).id.0 id) numbers)

-- whether a control is the n-th of them by id, from 0
abbrev pub is_nth : List Control → List ℕ → ℕ → ℕ → Bool
is_nth controls numbers n c = is_private_user (control_in controls c) && private_below controls numbers (control_in controls c).id.0 == n

abbrev pub nth_private : List Control → List ℕ → ℕ → Option ℕ
nth_private controls numbers n = first_that (is_nth controls numbers n) numbers

-- whether an id is an old one: V4L2_CID_PRIVATE_BASE and n more
abbrev pub is_old : ℕ → Bool
is_old id = nat_le V4L2_CID_PRIVATE_BASE id && nat_lt id V4L2_CTRL_FLAG_NEXT_COMPOUND

-- The id that an id stands for: an old one for that of the n-th of the driver's own user controls, where there is one, and else each for itself (Linux, v4l2-ctrls-core.c,
-- `find_private_ref`).
abbrev pub real_id : PlanData → ℕ → CtrlId → CtrlId
real_id plan h id =
    if is_old id.0 then unwrap_or (option_map (λ c. (control plan c).id) (nth_private plan.controls (visible plan h) (id.0 - V4L2_CID_PRIVATE_BASE))) id else id

-- The id that a query speaks of: with flags the least one of a wanted control behind the id without them, and else what the id stands for.
abbrev pub queried : PlanData → ℕ → ℕ → Option CtrlId
queried plan h id =
    if has_flag id V4L2_CTRL_FLAG_NEXT_CTRL || has_flag id V4L2_CTRL_FLAG_NEXT_COMPOUND
    then next_wanted plan h (bit_and id V4L2_CTRL_ID_MASK) (has_flag id V4L2_CTRL_FLAG_NEXT_CTRL) (has_flag id V4L2_CTRL_FLAG_NEXT_COMPOUND)
    else Some (real_id plan h (record { 0 = id }))
