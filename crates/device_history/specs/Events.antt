-- The events that steps raise for a file handle, and those that wait (Linux userspace API, "ioctl VIDIOC_DQEVENT", "ioctl
-- VIDIOC_SUBSCRIBE_EVENT, VIDIOC_UNSUBSCRIBE_EVENT"; the order of the events of one step, that a member which isn't in the list is heard of, and
-- that a button counts as changed only where the list names it are of this project).
use Rattle.std.specs.Prelude.{ℕ, suc, Bool, not, ◌||◌, nat_eq, cond, List, [], ◌∷◌, filter_map, length, Option, None, Some, is_some}
use Rattle.std.specs.List.{range_with_len}
use Rattle.std.specs.Option.{option_map, option_or}
use Rattle.history.specs.declared.entry.Entry.{Entry}
use Rattle.ctrl_types.specs.Events.{is_nothing, sends_initial}
use Rattle.ctrl_types.specs.declared.changes.Changes.{Changes}
use Rattle.ctrl_types.specs.declared.flags.Flags.{Flags}
use Rattle.ctrl_types.specs.declared.ids.FhId.{FhId}
use Rattle.ctrl_types.specs.declared.sub_flags.SubFlags.{SubFlags}
use Rattle.ctrl_calls.specs.Meanings.{Verdicts}
use Rattle.ctrl_events.specs.declared.event.Waiting.{Waiting}
use Rattle.ctrl_events.specs.Events.{is_from, reaches}
use Rattle.ctrl_events.specs.Pending.{Happening, raise, withdrawn, raises as raises_in, pending as pending_in}
use Rattle.ctrl_events.specs.declared.event.Payload.{Payload}
use Rattle.ctrl_handlers.specs.Plan.{PlanData, control, control_in}
use Rattle.ctrl_clusters.specs.Rows.{value_at}
use Rattle.ctrl_raises.specs.Raises.{changes_of, differ, initial_changes, needing_feedback, payload_of, range_differs}
use Rattle.device_history.specs.declared.ask.Step.{Step}
use Rattle.device_history.specs.declared.ask.Step.TheVariants as steps
use Rattle.device_history.specs.Steps.{Past}
use Rattle.device_history.specs.Ranges.{ranges_now}
use Rattle.device_history.specs.Handles.{handler_of}
use Rattle.device_history.specs.Values.{now}
use Rattle.device_history.specs.Flags.{flags_now}
use Rattle.device_history.specs.Words.{pairs_applied, changes}
use Rattle.device_history.specs.Subscriptions.{subscribed, subscribed_by}

-- the payload of a control's event after a history
abbrev pub payload : Verdicts → PlanData → Past → ℕ → Payload
payload verdicts plan past c = payload_of (control_in (ranges_now plan past) c) (value_at (now verdicts plan past) c) (flags_now verdicts plan past c)

-- whether an entry changes the flags of a control
abbrev pub flags_differ : Verdicts → PlanData → Entry Step → Past → ℕ → Bool
flags_differ verdicts plan e older c = differ (flags_now verdicts plan older c) (flags_now verdicts plan (e ∷ older) c)

-- whether it changes its value, which it also does where it sets a control that acts on each write
abbrev pub value_differs : Verdicts → PlanData → Entry Step → Past → ℕ → Bool
value_differs verdicts plan e older c = changes plan (now verdicts plan older) (now verdicts plan (e ∷ older)) (pairs_applied verdicts plan older e.step) c

-- whether it changes its bounds, its step or its default
abbrev pub has_other_range : PlanData → Entry Step → Past → ℕ → Bool
has_other_range plan e older c = range_differs (control_in (ranges_now plan older) c) (control_in (ranges_now plan (e ∷ older)) c)

-- what an entry changes of a control
abbrev pub changed : Verdicts → PlanData → Entry Step → Past → ℕ → Changes
changed verdicts plan e older c = changes_of (value_differs verdicts plan e older c) (flags_differ verdicts plan e older c) (has_other_range plan e older c)

-- the file handle whose set a change of a control is, where it hears of it only if its subscription allows feedback
abbrev pub from_of : Step → Changes → ℕ → Option ℕ
from_of (steps.Set from pairs) change c = needing_feedback (Some from.0) pairs change c
from_of _ change c = None

-- A subscriber hears of what a step changes of a control; but of what it sets itself only where feedback is allowed, where the flags or the range
-- change, or where the control wasn't in the list (ctrl_raises/specs/Raises, `needing_feedback`).
abbrev pub hears : FhId → SubFlags → Step → Changes → ℕ → Bool
hears fh flags step change c = reaches (is_from (from_of step change c) fh.0) (Some flags)

-- what a subscriber hears of what a step changes, where it hears of it
abbrev pub heard : FhId → Option SubFlags → Step → Changes → ℕ → Option Changes
heard fh None step change c = None
heard fh (Some flags) step change c = cond (is_nothing change || not (hears fh flags step change c)) None (Some change)

-- what a subscription raises of a control at once, where it is new and asks for it
abbrev pub initially : Option SubFlags → Option SubFlags → Flags → Option Changes
initially (Some own) asked has = None
initially None None has = None
initially None (Some flags) has = cond (sends_initial flags) (Some (initial_changes has)) None

-- what an entry raises of a control for a file handle, where it does: its changes
abbrev pub raised_for : Verdicts → PlanData → Entry Step → Past → FhId → ℕ → Option Changes
raised_for verdicts plan e older fh c =
    option_or (heard fh (subscribed older fh c) e.step (changed verdicts plan e older c) c) (initially (subscribed older fh c) (subscribed_by fh c e.step) (control plan c).flags)

-- the controls that it raises events of for the file handle, in the order of their numbers, each with what changed
abbrev pub all_raised_for : Verdicts → PlanData → Entry Step → Past → FhId → List (ℕ × Changes)
all_raised_for verdicts plan e older fh = filter_map (λ c. option_map (λ change. (c, change)) (raised_for verdicts plan e older fh c)) (range_with_len 0 (length plan.controls))

-- what happened to the events of a file handle, where some are raised besides, one after another; each has the next number
unfoldable pub with_raises : (ℕ → Payload) → List (ℕ × Changes) → List Happening → List Happening
with_raises payloads [] hs = hs
with_raises payloads (r ∷ rs) hs = with_raises payloads rs (raise (record { control = r.0; changes = r.1; payload = payloads r.0; sequence = length (raises_in hs) }) ∷ hs)

-- what happened, where what waits of a control is withdrawn besides, if one is named
abbrev pub withdrawn_if_named : Option ℕ → List Happening → List Happening
withdrawn_if_named None hs = hs
withdrawn_if_named (Some c) hs = withdrawn c ∷ hs

-- what happened, where a step takes the event of a control or ends the subscription to it besides
abbrev pub with_withdrawn : FhId → Step → List Happening → List Happening
with_withdrawn fh (steps.Unsubscribe f c) hs = cond (nat_eq f.0 fh.0) (withdrawn_if_named c hs) hs
with_withdrawn fh (steps.Take f c) hs = cond (nat_eq f.0 fh.0) (withdrawn c ∷ hs) hs
with_withdrawn fh _ hs = hs

-- What happened to the events of a file handle, newest first: each entry raises events, in the order of control numbers, whose payload is read
-- after it; or it takes one, or ends a subscription.
unfoldable pub happened : Verdicts → PlanData → Past → FhId → List Happening
happened verdicts plan [] fh = []
happened verdicts plan (e ∷ older) fh = with_raises (payload verdicts plan (e ∷ older)) (all_raised_for verdicts plan e older fh) (with_withdrawn fh e.step (happened verdicts plan older fh))

-- The raises for a file handle, in order; the number of each is its place.
abbrev pub raises : Verdicts → PlanData → Past → FhId → List Waiting
raises verdicts plan past fh = raises_in (happened verdicts plan past fh)

-- The raises that an entry adds, as the law `added_raises` says: of each control that it raises one of, one after another, each with the next number.
unfoldable pub raises_from : ℕ → (ℕ → Payload) → List (ℕ × Changes) → List Waiting
raises_from n payloads [] = []
raises_from n payloads (r ∷ rs) = record { control = r.0; changes = r.1; payload = payloads r.0; sequence = n } ∷ raises_from (suc n) payloads rs

-- The events that wait for an open file handle, in the order of their numbers: of each control that was raised since its event was taken or the
-- subscription to it was ended, the last raise, with the changes of all.
abbrev pub pending : Verdicts → PlanData → Past → FhId → List Waiting
pending verdicts plan past fh = cond (is_some (handler_of past fh)) (pending_in (happened verdicts plan past fh)) []

-- the number of the next raise for an open file handle
abbrev pub next_sequence : Verdicts → PlanData → Past → FhId → ℕ
next_sequence verdicts plan past fh = cond (is_some (handler_of past fh)) (length (raises verdicts plan past fh)) 0
