-- What a change of ranges, values and grabs raises for the file handles that are subscribed (Linux userspace API, "ioctl VIDIOC_DQEVENT"; the order of the raises, that
-- a member which isn't in the list is heard of, and that what can't be read is shown as 0, are of this project).
use Rattle.std.specs.Prelude.{ℕ, ℤ, Bool, true, false, not, ◌||◌, pos, nat_eq, cond, List, [], ◌∷◌, Option, None, Some, slice_set}
use Rattle.std.specs.Ordering.{int_eq}
use Rattle.ctrl_types.specs.Values.{number_of}
use Rattle.ctrl_types.specs.declared.value.CtrlValue.{CtrlValue}
use Rattle.ctrl_types.specs.Flags.{contains}
use Rattle.ctrl_types.specs.Events.{joined, no_changes, value_change, flags_change, is_nothing, has_flags, has_range}
use Rattle.ctrl_types.specs.declared.changes.Changes.{Changes}
use Rattle.ctrl_types.specs.declared.changes.TheConstants.Changes.{CH_RANGE}
use Rattle.ctrl_types.specs.declared.flags.Flags.{Flags}
use Rattle.ctrl_types.specs.declared.flags.TheConstants.Flags.{WRITE_ONLY}
use Rattle.ctrl_types.specs.declared.ids.Pair.{Pair}
use Rattle.ctrl_settle.specs.Control.{Control}
use Rattle.ctrl_events.specs.declared.event.Payload.{Payload}
use Rattle.ctrl_events.specs.Events.{FileEvents, after_raise}
use Rattle.ctrl_handlers.specs.Plan.{PlanData, control_in}
use Rattle.ctrl_clusters.specs.ControlsData.{ControlsData}
use Rattle.ctrl_clusters.specs.Ranges.{modified}
use Rattle.ctrl_clusters.specs.Rows.{value_at}
use Rattle.ctrl_clusters.specs.Overlay.{is_among}
use Rattle.ctrl_clusters.specs.Changes.{is_changed}
use Rattle.ctrl_clusters.specs.PresentFlags.{flags_under}

-- the moment before a range change: one control has the range and the value that it had, and all else is as afterwards
abbrev pub before_range : ControlsData → ℕ → Control → CtrlValue → ControlsData
before_range after c old value = record { ranges = modified after.ranges c old; values = slice_set after.values c value; grabs = after.grabs }

-- the value of a control that an event shows: 0 where it can't be read
abbrev pub value_shown : Control → CtrlValue → ℤ
value_shown ctrl value = cond (contains ctrl.flags WRITE_ONLY) (pos 0) (number_of value)

-- the payload of a control's event
abbrev pub payload_of : Control → CtrlValue → Flags → Payload
payload_of ctrl value flags = record {
  id = ctrl.id;
  kind = ctrl.kind;
  value = value_shown ctrl value;
  flags = flags;
  minimum = ctrl.minimum;
  maximum = ctrl.maximum;
  step = ctrl.step;
  default_value = ctrl.default_value;
}

-- the same, at a moment
abbrev pub payload_at : PlanData → ControlsData → ℕ → Payload
payload_at plan m c = payload_of (control_in m.ranges c) (value_at m.values c) (flags_under plan m.values m.grabs c)

-- changes, where they are
abbrev pub changes_where : Bool → Changes → Changes
changes_where b change = cond b change no_changes

-- what changes, where the value does, where the flags do, and where the range does
abbrev pub changes_of : Bool → Bool → Bool → Changes
changes_of value flags range = joined (joined (changes_where value value_change) (changes_where flags flags_change)) (changes_where range CH_RANGE)

-- whether flags differ
abbrev pub differ : Flags → Flags → Bool
differ a b = not (nat_eq a.0 b.0)

-- whether the bounds, the step or the default of a control differ
abbrev pub range_differs : Control → Control → Bool
range_differs a b =
    not (int_eq a.minimum b.minimum) || not (int_eq a.maximum b.maximum) || not (nat_eq a.step b.step) || not (int_eq a.default_value b.default_value)

-- What changes of a control from one moment to another, where pairs were applied: its value, also where it acts on each write and is among the
-- pairs; its flags; its bounds, step or default.
abbrev pub changed_between : PlanData → ControlsData → ControlsData → List Pair → ℕ → Changes
changed_between plan before after pairs c =
    changes_of (is_changed plan before.values pairs c (value_at after.values c)) (differ (flags_under plan before.values before.grabs c) (flags_under plan after.values after.grabs c))
    (range_differs (control_in before.ranges c) (control_in after.ranges c))

-- what a subscription raises of a control at once: its flags, and its value where it can be read
abbrev pub initial_changes : Flags → Changes
initial_changes flags = changes_of (not (contains flags WRITE_ONLY)) true false

-- The file handle that a change of a control comes from, where it hears of it only if its subscription allows feedback: the control is among its
-- pairs, and its flags and its range stay.
abbrev pub needing_feedback : Option ℕ → List Pair → Changes → ℕ → Option ℕ
needing_feedback None pairs change c = None
needing_feedback (Some from) pairs change c = cond (has_flags change || has_range change || not (is_among pairs c)) None (Some from)

-- what changes of a control is raised for a file handle, where something does
abbrev pub raised_one : Changes → Payload → Option ℕ → ℕ → ℕ → FileEvents → FileEvents
raised_one change payload from fh c f = cond (is_nothing change) f (after_raise c change payload from fh f)

-- the same of some controls, one after another
unfoldable pub raised_all : (ℕ → Changes) → (ℕ → Payload) → (ℕ → Option ℕ) → ℕ → List ℕ → FileEvents → FileEvents
raised_all change payload from fh [] f = f
raised_all change payload from fh (c ∷ cs) f = raised_all change payload from fh cs (raised_one (change c) (payload c) (from c) fh c f)
