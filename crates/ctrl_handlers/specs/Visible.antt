-- The controls that a handler shows, and how they are found (Linux driver API, "V4L2 Controls", "Inheriting Controls" and
-- "Preventing Controls inheritance").
use Rattle.std.specs.Prelude.{◌≡◌, ◌<◌, ℕ, zero, suc, min, Bool, ◌==◌, ◌||◌, if◌then◌else◌, nat_lt, List, [], ◌∷◌, ◌++◌, length, Option, is_some, slice_index_or}
use Rattle.std.specs.List.{find as first_that, fold, filter, reduce}
use Rattle.std.specs.Option.{option_map}
use Rattle.ctrl_types.specs.declared.ids.CtrlId.{CtrlId}
use Rattle.ctrl_settle.specs.Control.{Control}
use Rattle.id_index.specs.Entries.{number_of}
use Rattle.ctrl_handlers.specs.Plan.{PlanData, control_in, ids_of, own, added}

-- the first of some controls that has an id
abbrev pub first_with_id : List Control → List ℕ → CtrlId → Option ℕ
first_with_id controls numbers id = first_that (λ c. (control_in controls c).id.0 == id.0) numbers

-- a control of an added handler is left out where it is private, and where its id is shown already
abbrev pub is_left_out : List Control → List ℕ → ℕ → Bool
is_left_out controls shown c = (control_in controls c).is_private || is_some (first_with_id controls shown (control_in controls c).id)

-- what is shown once a control of an added handler is brought in
abbrev pub brought : List Control → List ℕ → ℕ → List ℕ
brought controls shown c = if is_left_out controls shown c then shown else shown ++ c ∷ []

-- what is shown once those that an added handler shows are brought in, in their order
abbrev pub all_brought : List Control → List ℕ → List ℕ → List ℕ
all_brought controls shown numbers = fold (brought controls) shown numbers

-- What a handler shows, given what each with a smaller number shows: its own controls, and then those that each handler that it
-- adds shows, in the order of adding.
abbrev pub shown_over : PlanData → List (List ℕ) → ℕ → List ℕ
shown_over plan below h = fold (λ shown a. all_brought plan.controls shown (slice_index_or below a [])) (own plan h) (added plan h)

-- what the handlers below a number show, in the order of their numbers
unfoldable pub shown_below : PlanData → ℕ → List (List ℕ)
shown_below plan zero = []
shown_below plan (suc h) = shown_below plan h ++ shown_over plan (shown_below plan h) h ∷ []

-- the controls that a handler shows, by recursion on its number
abbrev pub visible : PlanData → ℕ → List ℕ
visible plan h = shown_over plan (shown_below plan h) h

-- the control that a handler shows under an id
abbrev pub find : PlanData → ℕ → CtrlId → Option ℕ
find plan h id = first_with_id plan.controls (visible plan h) id

-- the least of some numbers that is greater than another
abbrev pub least_above : ℕ → List ℕ → Option ℕ
least_above n numbers = reduce min (filter (nat_lt n) numbers)

-- the least id that a handler shows and that is greater than the given one
abbrev pub next_id : PlanData → ℕ → CtrlId → Option CtrlId
next_id plan h id = option_map (λ n. record { 0 = n }) (least_above id.0 (ids_of plan.controls (visible plan h)))

-- an index of some controls: under each id stands the first of them that has it
abbrev pub IsIndexOf : List Control → List ℕ → List (ℕ × ℕ) → Type 0
IsIndexOf controls numbers entries = (id : ℕ) → number_of entries id ≡ first_with_id controls numbers (record { 0 = id })

-- an index for each of some lists of controls, in their order
abbrev pub AreIndexed : List Control → List (List ℕ) → List (List (ℕ × ℕ)) → Type 0
AreIndexed controls lists indexes =
    (length indexes ≡ length lists) × ((h : ℕ) → h < length lists → IsIndexOf controls (slice_index_or lists h []) (slice_index_or indexes h []))
