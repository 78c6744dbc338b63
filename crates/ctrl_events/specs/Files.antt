-- How what is kept of file handles lies in a list, and what a raise makes of an entry.
use Rattle.std.specs.Prelude.{ℕ, zero, suc, List, [], ◌∷◌, Option}
use Rattle.ctrl_types.specs.declared.changes.Changes.{Changes}
use Rattle.ctrl_events.specs.Events.{FileEvents, after_raise}
use Rattle.ctrl_events.specs.declared.event.Payload.{Payload}

-- the entry after a raise of a control's event
abbrev pub raised_in_entry : ℕ → Changes → Payload → Option ℕ → ℕ × FileEvents → ℕ × FileEvents
raised_in_entry c changes payload from e = (e.0, after_raise c changes payload from e.0 e.1)

-- the entries, where the one at a place is changed
abbrev pub changed_at : ℕ → (ℕ × FileEvents → ℕ × FileEvents) → List (ℕ × FileEvents) → List (ℕ × FileEvents)
changed_at i change [] = []
changed_at zero change (e ∷ es) = change e ∷ es
changed_at (suc i) change (e ∷ es) = e ∷ changed_at i change es
