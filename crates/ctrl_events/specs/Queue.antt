-- How the subscriptions and events of a file handle are kept: with room for one event of each subscription.
use Rattle.std.specs.Prelude.{◌≡◌, ℕ, pos, ◌+◌, ◌<◌, ◌≤◌, Bool, true, if◌then◌else◌, List, length, map, get_or}
use Rattle.ctrl_types.specs.Events.{no_changes}
use Rattle.ctrl_types.specs.declared.changes.Changes.{Changes}
use Rattle.ctrl_types.specs.declared.kind.Kind.TheVariants.{Integer}
use Rattle.ctrl_types.specs.declared.sub_flags.SubFlags.{SubFlags}
use Rattle.ctrl_events.specs.declared.event.Latest.{Latest}
use Rattle.ctrl_events.specs.Events.{Subscription, Waiting, AreSubscribed}
use Rattle.ctrl_events.specs.Order.{has}

-- no flags
abbrev pub no_flags : SubFlags
no_flags = record { 0 = 0 }

-- the subscription to a control, whose flags stand at its number
abbrev pub subscription_to : List SubFlags → ℕ → Subscription
subscription_to flags c = record { control = c; flags = get_or flags c no_flags }

abbrev pub subscriptions : List SubFlags → List ℕ → List Subscription
subscriptions flags controls = map (subscription_to flags) controls

-- where nothing was raised
abbrev pub no_latest : Latest
no_latest = record { changes = no_changes; payload = record { id = record { 0 = 0 }; kind = Integer; value = pos 0; flags = record { 0 = 0 }; minimum = pos 0; maximum = pos 0; step = 0; default_value = pos 0 }; sequence = 0 }

-- the event of a control that waits, from what was raised last of it
abbrev pub waiting_from : ℕ → Latest → Waiting
waiting_from c t = record { control = c; changes = t.changes; payload = t.payload; sequence = t.sequence }

-- the event of a control that waits, where what was raised last of each stands at its number
abbrev pub event_to : List Latest → ℕ → Waiting
event_to latest c = waiting_from c (get_or latest c no_latest)

abbrev pub events_to : List Latest → List ℕ → List Waiting
events_to latest controls = map (event_to latest) controls

-- what an event of a control that waits, if one does, says that changed
abbrev pub changes_before : Bool → Latest → Changes
changes_before waited t = if waited then t.changes else no_changes

-- the flags of each control and what was raised last of it, which had room, stay, and there may be room for more
pub record HasGrown (flags more_flags : List SubFlags) (latest more_latest : List Latest) : Type 0 where
  pub more_flagged : length flags ≤ length more_flags
  pub same_flags : (c : ℕ) → c < length flags → get_or more_flags c no_flags ≡ get_or flags c no_flags
  pub more_raisable : length latest ≤ length more_latest
  pub same_latest : (c : ℕ) → c < length latest → get_or more_latest c no_latest ≡ get_or latest c no_latest

-- What waits is of controls that are subscribed, and no control waits twice; the flags of each subscription, its event and its place among those
-- that wait have their room, so that as many can wait as are subscribed; and no more wait than were raised.
pub record IsQueue (controls : List ℕ) (flags : List SubFlags) (latest : List Latest) (waiting : List ℕ) (bound room next : ℕ) : Type 0 where
  pub kept : AreSubscribed (subscriptions flags controls) (events_to latest waiting)
  pub flagged : (c : ℕ) → has controls c ≡ true → c < length flags
  pub raisable : (c : ℕ) → has controls c ≡ true → c < length latest
  pub placed : (c : ℕ) → has controls c ≡ true → c < bound
  pub fits : length controls + length controls ≤ room
  pub few : length waiting ≤ next
