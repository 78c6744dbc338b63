-- What waits for a file handle, read off what happened to its events (Linux userspace API, "ioctl VIDIOC_DQEVENT", "ioctl
-- VIDIOC_SUBSCRIBE_EVENT, VIDIOC_UNSUBSCRIBE_EVENT"; Linux driver API, "V4L2 events").
use Rattle.std.specs.Prelude.{◌≡◌, ℕ, Bool, false, nat_eq, cond, List, [], ◌∷◌, ◌++◌, filter, filter_map, length, Option, None, Some}
use Rattle.ctrl_types.specs.Events.{joined, no_changes}
use Rattle.ctrl_types.specs.declared.changes.Changes.{Changes}
use Rattle.ctrl_events.specs.Events.{Waiting, FileEvents}

-- What happens to the events of a file handle: one of a control is raised, with what changed, its payload and its number; or what waits of a
-- control is withdrawn, since it was taken or the subscription ended.
pub data Happening : Type 0 where
  raise : Waiting → Happening
  withdrawn : ℕ → Happening

-- the raise, where it is one
abbrev pub raise_of : Happening → Option Waiting
raise_of (raise w) = Some w
raise_of (withdrawn c) = None

-- the raises of what happened, which is given newest first; oldest first
unfoldable pub raises : List Happening → List Waiting
raises [] = []
raises (raise w ∷ older) = raises older ++ w ∷ []
raises (withdrawn c ∷ older) = raises older

-- the number of each raise is its place among the raises, from 0
unfoldable pub AreNumbered : List Happening → Type 0
AreNumbered [] = Unit {0}
AreNumbered (raise w ∷ older) = (w.sequence ≡ length (raises older)) × AreNumbered older
AreNumbered (withdrawn c ∷ older) = AreNumbered older

-- what waits of a control is withdrawn
abbrev pub is_withdrawn : ℕ → Happening → Bool
is_withdrawn c (raise w) = false
is_withdrawn c (withdrawn d) = nat_eq d c

-- what happened since it was withdrawn last
unfoldable pub since_withdrawn : ℕ → List Happening → List Happening
since_withdrawn c [] = []
since_withdrawn c (h ∷ older) = cond (is_withdrawn c h) [] (h ∷ since_withdrawn c older)

-- the raises of a control since what waited of it was withdrawn last, newest first
unfoldable pub raises_since : ℕ → List Happening → List Waiting
raises_since c hs = filter (λ w. nat_eq w.control c) (filter_map raise_of (since_withdrawn c hs))

-- the changes of all of some raises
abbrev pub all_changes : List Waiting → Changes
all_changes [] = no_changes
all_changes (w ∷ ws) = joined (all_changes ws) w.changes

-- The event that a raise is, where it is the last of those of its control since what waited of it was withdrawn: with the changes of all.
abbrev pub waiting_of : List Waiting → Waiting → Option Waiting
waiting_of [] w = None
waiting_of (last ∷ others) w = cond (nat_eq last.sequence w.sequence) (Some (record w { changes = all_changes (last ∷ others) })) None

-- The events that wait, in the order of their numbers: of each control that was raised since what waited of it was withdrawn, the last raise, with
-- the changes of all.
unfoldable pub pending : List Happening → List Waiting
pending hs = filter_map (λ w. waiting_of (raises_since w.control hs) w) (raises hs)

-- What is kept of a file handle is what happened to its events: the events that wait, and the number of the next raise.
pub record IsWhatHappened (hs : List Happening) (f : FileEvents) : Type 0 where
  pub numbered : AreNumbered hs
  pub waiting : f.waiting ≡ pending hs
  pub next : f.next ≡ length (raises hs)
