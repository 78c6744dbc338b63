-- What is told of a control, of a menu's item and of an event in the structs of their calls (Linux userspace API, "ioctls VIDIOC_QUERYCTRL, VIDIOC_QUERY_EXT_CTRL and
-- VIDIOC_QUERYMENU", "ioctl VIDIOC_DQEVENT"). All that isn't named is 0.
use Rattle.std.specs.Prelude.{ℕ, ℤ, Bool, true, false, ◌&&◌, ◌==◌, not, if◌then◌else◌, ◌+◌, ◌%◌, bit_or, List}
use Rattle.std.specs.Int.{cast_signed, w64}
use Rattle.ctrl_types.specs.Flags.{bits, contains}
use Rattle.ctrl_types.specs.Numbers.{kind_number}
use Rattle.ctrl_types.specs.declared.flags.Flags.{Flags}
use Rattle.ctrl_types.specs.declared.flags.TheConstants.Flags.{READ_ONLY, WRITE_ONLY}
use Rattle.ctrl_types.specs.declared.ids.CtrlId.{CtrlId}
use Rattle.ctrl_types.specs.declared.kind.Kind.{Kind}
use Rattle.ctrl_types.specs.declared.kind.Kind.TheVariants.{Integer64, U8}
use Rattle.ctrl_events.specs.declared.event.Event.{Event}
use Rattle.device_history.specs.declared.info.CtrlInfo.{CtrlInfo}
use Rattle.menu_items.specs.declared.item.MenuItem.{MenuItem}
use Rattle.menu_items.specs.declared.item.MenuItem.TheVariants.{Name, Number}
use Rattle.ioctl_bytes.specs.Fields.{with_i64, with_low, with_name, with_part, with_u32, with_u64, zeros}
use Rattle.ioctl_bytes.specs.declared.calls.TheConstants.{V4L2_CTRL_FLAG_HAS_PAYLOAD, V4L2_CTRL_TYPE_CTRL_CLASS, V4L2_EVENT_CTRL}
use Rattle.ioctl_bytes.specs.declared.layout.v4l2_queryctrl.TheConstants as query
use Rattle.ioctl_bytes.specs.declared.layout.v4l2_query_ext_ctrl.TheConstants as ext
use Rattle.ioctl_bytes.specs.declared.layout.v4l2_querymenu.TheConstants as menu
use Rattle.ioctl_bytes.specs.declared.layout.v4l2_event.TheConstants as event
use Rattle.ioctl_bytes.specs.declared.layout.v4l2_event_ctrl.TheConstants as change

-- a heading of a class: the control of its first id, which can be neither read nor written
abbrev pub is_heading : CtrlId → Flags → Bool
is_heading id flags = id.0 % 0x10000 == 1 && contains flags READ_ONLY && contains flags WRITE_ONLY

-- the type that is told: a heading has one of its own
abbrev pub type_told : CtrlId → Flags → Kind → ℕ
type_told id flags kind = if is_heading id flags then V4L2_CTRL_TYPE_CTRL_CLASS else kind_number kind

-- the flags that are told: an array has its value behind a pointer
abbrev pub flags_told : Kind → Flags → ℕ
flags_told U8 flags = bit_or (bits flags) V4L2_CTRL_FLAG_HAS_PAYLOAD
flags_told _ flags = bits flags

-- how many bytes an element has
abbrev pub size_of : Kind → ℕ
size_of Integer64 = 8
size_of U8 = 1
size_of _ = 4

-- whether `struct v4l2_queryctrl` has bounds of such a control
abbrev pub tells_bounds : Kind → Bool
tells_bounds Integer64 = false
tells_bounds U8 = false
tells_bounds _ = true

-- a distance of values, of which 32 bits are told as of every bound
abbrev pub step_told : ℕ → ℤ
step_told step = cast_signed w64 step

-- the bounds in `struct v4l2_queryctrl`
abbrev pub bounds_put : CtrlInfo → List ℕ → List ℕ
bounds_put info bytes =
    with_low query.DEFAULT_VALUE info.default_value
    (with_low query.STEP (step_told info.step)
    (with_low query.MAXIMUM info.maximum
    (with_low query.MINIMUM info.minimum bytes)))

-- with the bounds where they are told: a heading, a 64-bit number and an array have none there
abbrev pub with_bounds_told : CtrlInfo → List ℕ → List ℕ
with_bounds_told info bytes = if tells_bounds info.kind && not (is_heading info.id info.flags) then bounds_put info bytes else bytes

-- `struct v4l2_queryctrl` of a control with a name, without bounds
abbrev pub queryctrl_named : CtrlInfo → List ℕ → List ℕ
queryctrl_named info name =
    with_u32 query.FLAGS (flags_told info.kind info.flags)
    (with_name query.NAME name
    (with_u32 query.TYPE (type_told info.id info.flags info.kind)
    (with_u32 query.ID info.id.0 (zeros query.SIZE))))

-- `struct v4l2_queryctrl` of a control with a name
abbrev pub queryctrl : CtrlInfo → List ℕ → List ℕ
queryctrl info name = with_bounds_told info (queryctrl_named info name)

-- the bounds in `struct v4l2_query_ext_ctrl`
abbrev pub with_wide_bounds : CtrlInfo → List ℕ → List ℕ
with_wide_bounds info bytes =
    with_i64 ext.DEFAULT_VALUE info.default_value
    (with_u64 ext.STEP info.step
    (with_i64 ext.MAXIMUM info.maximum
    (with_i64 ext.MINIMUM info.minimum bytes)))

-- the one dimension of an array
abbrev pub with_dimension : Kind → ℕ → List ℕ → List ℕ
with_dimension U8 elems bytes = with_u32 ext.DIMS elems (with_u32 ext.NR_OF_DIMS 1 bytes)
with_dimension _ elems bytes = bytes

-- with the 64-bit bounds where they are told: a heading has none
abbrev pub with_wide_bounds_told : CtrlInfo → List ℕ → List ℕ
with_wide_bounds_told info bytes = if is_heading info.id info.flags then bytes else with_wide_bounds info bytes

-- `struct v4l2_query_ext_ctrl` of a control with a name, without bounds and dimensions
abbrev pub query_ext_ctrl_named : CtrlInfo → List ℕ → List ℕ
query_ext_ctrl_named info name =
    with_u32 ext.ELEMS info.elems
    (with_u32 ext.ELEM_SIZE (size_of info.kind)
    (with_u32 ext.FLAGS (flags_told info.kind info.flags)
    (with_name ext.NAME name
    (with_u32 ext.TYPE (type_told info.id info.flags info.kind)
    (with_u32 ext.ID info.id.0 (zeros ext.SIZE))))))

-- `struct v4l2_query_ext_ctrl` of a control with a name
abbrev pub query_ext_ctrl : CtrlInfo → List ℕ → List ℕ
query_ext_ctrl info name = with_dimension info.kind info.elems (with_wide_bounds_told info (query_ext_ctrl_named info name))

-- the name or the number of an item
abbrev pub item_put : MenuItem → List ℕ → List ℕ
item_put (Name name) bytes = with_name menu.NAME name bytes
item_put (Number number) bytes = with_i64 menu.VALUE number bytes

-- `struct v4l2_querymenu` with an item: the id and the index stay
abbrev pub querymenu : MenuItem → List ℕ → List ℕ
querymenu item asked = item_put item (with_part menu.NAME (zeros 36) asked)

-- the value of an event, in as many bits as its control has
abbrev pub value_put : Kind → ℤ → List ℕ → List ℕ
value_put Integer64 value bytes = with_i64 (event.U + change.VALUE64) value bytes
value_put _ value bytes = with_low (event.U + change.VALUE) value bytes

-- the bounds in an event
abbrev pub with_event_bounds : Event → List ℕ → List ℕ
with_event_bounds e bytes =
    with_low (event.U + change.DEFAULT_VALUE) e.default_value
    (with_low (event.U + change.STEP) (step_told e.step)
    (with_low (event.U + change.MAXIMUM) e.maximum
    (with_low (event.U + change.MINIMUM) e.minimum bytes)))

-- with the bounds of an event where they are told: a heading has none
abbrev pub with_event_bounds_told : Event → List ℕ → List ℕ
with_event_bounds_told e bytes = if is_heading e.id e.flags then bytes else with_event_bounds e bytes

-- what an event says of its control
abbrev pub with_change : Event → List ℕ → List ℕ
with_change e bytes =
    with_event_bounds_told e
    (with_u32 (event.U + change.FLAGS) (flags_told e.kind e.flags)
    (value_put e.kind e.value
    (with_u32 (event.U + change.TYPE) (type_told e.id e.flags e.kind)
    (with_u32 (event.U + change.CHANGES) e.changes.0 bytes))))

-- `struct v4l2_event` of an event, but for its time
abbrev pub event_told : Event → List ℕ
event_told e =
    with_u32 event.ID e.id.0
    (with_u32 event.SEQUENCE e.sequence
    (with_u32 event.PENDING e.pending
    (with_change e
    (with_u32 event.TYPE V4L2_EVENT_CTRL (zeros event.SIZE)))))
