-- The control events of file handles, and what subscriptions, raises and takes make of them (Linux userspace API, "ioctl
-- VIDIOC_SUBSCRIBE_EVENT, VIDIOC_UNSUBSCRIBE_EVENT", "ioctl VIDIOC_DQEVENT"; Linux driver API, "V4L2 events").
pub use Rattle.ctrl_events.specs.declared.event.Subscription.{Subscription}
pub use Rattle.ctrl_events.specs.declared.event.Waiting.{Waiting}
use Rattle.std.specs.Prelude.{◌≡◌, ℕ, zero, suc, Bool, true, false, not, ◌||◌, nat_eq, if◌then◌else◌, List, [], ◌∷◌, ◌++◌, filter, length, Option, None, Some, is_some, unwrap_or, Result, Ok, Err}
use Rattle.std.specs.List.{list_any}
use Rattle.std.specs.Map.{lookup}
use Rattle.ctrl_types.specs.Events.{joined, no_changes, sends_initial, allows_feedback}
use Rattle.ctrl_types.specs.declared.changes.Changes.{Changes}
use Rattle.ctrl_types.specs.declared.sub_flags.SubFlags.{SubFlags}
use Rattle.ctrl_types.specs.declared.check.Check.{Check}
use Rattle.ctrl_types.specs.declared.check.Check.TheVariants.{NoEventWaits}
use Rattle.ctrl_events.specs.declared.event.Payload.{Payload}
use Rattle.ctrl_events.specs.declared.event.Event.{Event}

-- what is kept of a file handle: its subscriptions, the events that wait, in the order of their last raises, and the number of the next
pub record FileEvents : Type 0 where
  pub subscribed : List Subscription
  pub waiting : List Waiting
  pub next : ℕ

-- a file handle without subscriptions, for which nothing was ever raised
abbrev pub no_events : FileEvents
no_events = record { subscribed = []; waiting = []; next = 0 }

-- the flags of the subscription to a control, where there is one
abbrev pub flags_in : List Subscription → ℕ → Option SubFlags
flags_in [] c = None
flags_in (s ∷ ss) c = if nat_eq c s.control then Some s.flags else flags_in ss c

-- the events of other controls
abbrev pub other_events : ℕ → List Waiting → List Waiting
other_events c ws = filter (λ w. not (nat_eq c w.control)) ws

-- what the event of a control that waits says that changed; nothing, where none waits
abbrev pub changes_in : List Waiting → ℕ → Changes
changes_in [] c = no_changes
changes_in (w ∷ ws) c = if nat_eq c w.control then w.changes else changes_in ws c

-- A raise for the file handle: at most one event of a control waits, with the changes of all since one was taken or the subscription ended, the payload of now and the next
-- number, and it is the last.
abbrev pub raised : ℕ → Changes → Payload → FileEvents → FileEvents
raised c changes payload f = record {
  subscribed = f.subscribed;
  waiting = other_events c f.waiting ++ record { control = c; changes = joined (changes_in f.waiting c) changes; payload = payload; sequence = f.next } ∷ [];
  next = suc f.next;
}

-- one more subscription
abbrev pub with_subscription : ℕ → SubFlags → FileEvents → FileEvents
with_subscription c flags f = record f { subscribed = f.subscribed ++ record { control = c; flags = flags } ∷ [] }

-- A subscription: one that is there stays as it is; a new one raises an event at once where its flags say so.
abbrev pub after_subscribe : ℕ → SubFlags → Changes → Payload → FileEvents → FileEvents
after_subscribe c flags changes payload f =
    if is_some (flags_in f.subscribed c) then f
    else if sends_initial flags then raised c changes payload (with_subscription c flags f)
    else with_subscription c flags f

-- The end of a subscription, where there is one: what waits of the control is dropped.
abbrev pub after_unsubscribe : ℕ → FileEvents → FileEvents
after_unsubscribe c f = record f { subscribed = filter (λ s. not (nat_eq c s.control)) f.subscribed; waiting = other_events c f.waiting }

-- the event that is taken, where so many still wait
abbrev pub event_of : ℕ → Waiting → Event
event_of pending w = record {
  id = w.payload.id;
  kind = w.payload.kind;
  changes = w.changes;
  value = w.payload.value;
  flags = w.payload.flags;
  minimum = w.payload.minimum;
  maximum = w.payload.maximum;
  step = w.payload.step;
  default_value = w.payload.default_value;
  sequence = w.sequence;
  pending = pending;
}

-- the first of some events that wait
abbrev pub first_waiting : List Waiting → Result Event Check
first_waiting [] = Err NoEventWaits
first_waiting (w ∷ ws) = Ok (event_of (length ws) w)

-- what waits behind the first
abbrev pub behind_first : List Waiting → List Waiting
behind_first [] = []
behind_first (w ∷ ws) = ws

abbrev pub after_take : FileEvents → FileEvents
after_take f = record f { waiting = behind_first f.waiting }

-- whether this is the file handle that the raise comes from
abbrev pub is_from : Option ℕ → ℕ → Bool
is_from None fh = false
is_from (Some from) fh = nat_eq from fh

-- whether a raise reaches a file handle: it is subscribed, and the raise comes from another or feedback is allowed
abbrev pub reaches : Bool → Option SubFlags → Bool
reaches own None = false
reaches own (Some flags) = not own || allows_feedback flags

-- A raise of a control's event, which comes from a file handle or from none.
abbrev pub after_raise : ℕ → Changes → Payload → Option ℕ → ℕ → FileEvents → FileEvents
after_raise c changes payload from fh f = if reaches (is_from from fh) (flags_in f.subscribed c) then raised c changes payload f else f

-- the event that waits at a place, with the number of its control, and as it would be taken there: those behind it still wait
abbrev pub event_at : List Waiting → ℕ → Option (ℕ × Event)
event_at [] place = None
event_at (w ∷ ws) zero = Some (w.control, event_of (length ws) w)
event_at (w ∷ ws) (suc place) = event_at ws place

-- whether an event of the control waits
abbrev pub is_waiting : List Waiting → ℕ → Bool
is_waiting ws c = list_any (λ w. nat_eq c w.control) ws

-- what waits is of controls that are subscribed, and no control waits twice
abbrev pub AreSubscribed : List Subscription → List Waiting → Type 0
AreSubscribed ss [] = Unit {0}
AreSubscribed ss (w ∷ ws) = (is_some (flags_in ss w.control) ≡ true) × (is_waiting ws w.control ≡ false) × AreSubscribed ss ws

-- the same of a file handle
abbrev pub WaitsForSubscribed : FileEvents → Type 0
WaitsForSubscribed f = AreSubscribed f.subscribed f.waiting

-- the same events wait for two file handles, in the same order, and the next has the same number
abbrev pub IsLike : FileEvents → FileEvents → Type 0
IsLike f g = (f.waiting ≡ g.waiting) × (f.next ≡ g.next)

-- the file handles for which something is kept
pub record EventsData : Type 0 where
  pub files : List (ℕ × FileEvents)

-- what is kept of a file handle
unfoldable pub events_of : EventsData → ℕ → FileEvents
events_of events fh = unwrap_or (lookup (nat_eq fh) events.files) no_events

-- a file handle changes, every other stays as it is
abbrev pub only_at : ℕ → (FileEvents → FileEvents) → ℕ → FileEvents → FileEvents
only_at fh change j f = if nat_eq fh j then change f else f
