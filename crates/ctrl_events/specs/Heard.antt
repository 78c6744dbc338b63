-- Which file handles may be subscribed to a control, by a bit of each 64th place at which one is kept (of this project).
use Rattle.std.specs.Prelude.{◌≡◌, ◌%◌, ℕ, Bool, true, false, List, Option, None, Some, get_or, is_some, slice_get}
use Rattle.std.specs.Int.{bit_at}
use Rattle.ctrl_events.specs.Events.{FileEvents, flags_in}

-- whether the file handle of an entry, if there is one, is subscribed to a control
abbrev pub is_listening : Option (ℕ × FileEvents) → ℕ → Bool
is_listening None c = false
is_listening (Some e) c = is_some (flags_in e.1.subscribed c)

-- whether the file handle at a place is subscribed to a control
abbrev pub listens : List (ℕ × FileEvents) → ℕ → ℕ → Bool
listens files place c = is_listening (slice_get files place) c

-- the file handle at a place may be subscribed to a control
abbrev pub IsHeard : List ℕ → ℕ → ℕ → Type 0
IsHeard heard place c = bit_at (get_or heard c 0) (place % 64) ≡ 1

-- each that is subscribed may be
unfoldable pub AreHeard : List ℕ → List (ℕ × FileEvents) → Type 0
AreHeard heard files = (place c : ℕ) → listens files place c ≡ true → IsHeard heard place c

-- the places of the file handles that are subscribed to a control have their bits among these
abbrev pub HaveBits : ℕ → ℕ → List (ℕ × FileEvents) → Type 0
HaveBits bits c files = (place : ℕ) → listens files place c ≡ true → bit_at bits (place % 64) ≡ 1
