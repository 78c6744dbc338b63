-- What a control event says that changed, and how a file handle subscribes to events (Linux userspace API, "ioctl VIDIOC_DQEVENT",
-- "ioctl VIDIOC_SUBSCRIBE_EVENT, VIDIOC_UNSUBSCRIBE_EVENT").
use Rattle.std.specs.Prelude.{Bool, not, ◌==◌, bit_and, bit_or}
use Rattle.ctrl_types.specs.declared.changes.Changes.{Changes}
use Rattle.ctrl_types.specs.declared.sub_flags.SubFlags.{SubFlags}

-- the changes of either
abbrev pub joined : Changes → Changes → Changes
joined a b = record { 0 = bit_or a.0 b.0 }

-- nothing changed
abbrev pub no_changes : Changes
no_changes = record { 0 = 0 }

abbrev pub value_change : Changes
value_change = record { 0 = 1 }

abbrev pub flags_change : Changes
flags_change = record { 0 = 2 }

-- whether there is no change
abbrev pub is_nothing : Changes → Bool
is_nothing c = c.0 == 0

-- whether the flags are among what changed
abbrev pub has_flags : Changes → Bool
has_flags c = not (bit_and c.0 2 == 0)

-- whether the range is among what changed
abbrev pub has_range : Changes → Bool
has_range c = not (bit_and c.0 4 == 0)

-- an event is raised at once for the file handle that subscribes
abbrev pub sends_initial : SubFlags → Bool
sends_initial f = not (bit_and f.0 1 == 0)

-- the file handle gets the events of its own sets too
abbrev pub allows_feedback : SubFlags → Bool
allows_feedback f = not (bit_and f.0 2 == 0)
