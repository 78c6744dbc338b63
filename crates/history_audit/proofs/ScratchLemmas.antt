-- Flags that are compared one by one, and events of open file handles.
use Rattle.std.proofs.Common.{◌≡◌, ℕ, suc, ◌+◌, ◌<◌, List, [], ◌∷◌, ◌++◌, length, map, take, slice_get, nat_eq, inl, inr, Option, None, Some, unwrap_or, refl, ap, sym, ◌∙◌, arith}
use Rattle.std.specs.List.{range_with_len}
use Rattle.std.specs.Map.{lookup}
use Rattle.std.proofs.Math.ListN.{get_or}
use Rattle.std.proofs.lemmas.Bool.Decides.{eqb_tells}
use Rattle.std.proofs.lemmas.List.{length-map, take_more_same}
use Rattle.std.proofs.lemmas.List.FromFn.{get_or-map-range_with_len, length-map-range_with_len, map-range_with_len_more}
use Rattle.std.proofs.lemmas.Option.{slice_get-get_or, unwrap_or-slice_get}
use Rattle.ctrl_types.specs.declared.ids.FhId.{FhId}
use Rattle.ctrl_calls.specs.Meanings.{Verdicts}
use Rattle.ctrl_events.specs.Events.{EventsData, events_of}
use Rattle.ctrl_events.proofs.KeptLemmas.{Tells}
use Rattle.ctrl_handlers.specs.Plan.{PlanData}
use Rattle.device_history.specs.Steps.{Past, History}
use Rattle.device_history.specs.Handles.{opened}
use Rattle.device_history.specs.EventSteps.{AreEvents}
use Rattle.history.specs.Past.{past}
use Rattle.ctrl_types.specs.declared.flags.Flags.{Flags}
use Rattle.ctrl_forecast.specs.declared.board.Forecast.{Forecast}
use Rattle.device_history.specs.Forecasts.{forecast}
use Rattle.device_history.proofs.ControlsLemmas.{ranges_of, values_of}
use Rattle.device_parts.specs.State.{IsMade, StateData}
use Rattle.history_audit.specs.Scratch.{OpenEvents, ScratchData, all_events, all_flags, events_for, its_events, open_events, open_with, scratch, shown_of}
use Rattle.history_audit.proofs.MadeLemmas.{taken_next}

-- one more is as it is to be
pub compared_next : {X : Type 0} (xs : List X) (f : ℕ → X) (k : ℕ) (d : X) → k < length xs → get_or xs k d ≡ f k → take k xs ≡ map f (range_with_len 0 k) → take (k + 1) xs ≡ map f (range_with_len 0 (k + 1))
compared_next xs f k d within is so_far =
    let next : k + 1 ≡ suc k = omega arith in
    ap (λ (n : ℕ). take n xs) next ∙ (taken_next xs k (get_or xs k d) (slice_get-get_or xs k d within)).0 ∙ ap (λ (ys : List _). ys ++ get_or xs k d ∷ []) so_far ∙ ap (λ (y : _). map f (range_with_len 0 k) ++ y ∷ []) is
    ∙ sym (map-range_with_len_more f 0 k k (omega arith))

-- where all are as they are to be, each one is
pub compared_each : {X : Type 0} (xs : List X) (f : ℕ → X) (n k : ℕ) (d : X) → xs ≡ map f (range_with_len 0 n) → k < n → get_or xs k d ≡ f k
compared_each xs f n k d is within = ap (λ (ys : List _). get_or ys k d) is ∙ get_or-map-range_with_len f 0 n k k d within (omega arith)

-- and there are so many
pub compared_many : {X : Type 0} (xs : List X) (f : ℕ → X) (n : ℕ) → xs ≡ map f (range_with_len 0 n) → length xs ≡ n
compared_many xs f n is = ap length is ∙ length-map-range_with_len f 0 n

-- the open file handles with what is kept of their events, where that is what the history makes of each
pub events_made : (verdicts : Verdicts) (plan : PlanData) (past : Past) (events : EventsData) (handles : List (ℕ × ℕ)) → handles ≡ opened past → ((fh : FhId) → AreEvents verdicts plan past fh (events_of events fh.0))
    → open_events events handles ≡ all_events verdicts plan past
events_made verdicts plan past events handles is kept = each handles ∙ ap (λ (hs : List (ℕ × ℕ)). map (λ (h : ℕ × ℕ). its_events verdicts plan past (record { 0 = h.0 })) hs) is
  where
    one : (fh : FhId) → open_with fh.0 (events_of events fh.0) ≡ its_events verdicts plan past fh
    one fh = λ i. record { fh = fh; waiting = (kept fh).waiting i; next = (kept fh).next i }

    each : (hs : List (ℕ × ℕ)) → open_events events hs ≡ map (λ (h : ℕ × ℕ). its_events verdicts plan past (record { 0 = h.0 })) hs
    each [] = refl
    each (h ∷ hs) = λ i. one (record { 0 = h.0 }) i ∷ each hs i

-- nothing is listed of a file handle
nothing : OpenEvents
nothing = record { fh = record { 0 = 0 }; waiting = []; next = 0 }

-- of one more file handle both list what is equal
pub alike_next : (own others : EventsData) (hs gs : List (ℕ × ℕ)) (i : ℕ) → i < length hs → i < length gs → slice_get (open_events own hs) i ≡ slice_get (open_events others gs) i
    → take i (open_events own hs) ≡ take i (open_events others gs) → take (i + 1) (open_events own hs) ≡ take (i + 1) (open_events others gs)
alike_next own others hs gs i h g is so_far =
    let xs : List OpenEvents = open_events own hs in
    let ys : List OpenEvents = open_events others gs in
    take_more_same xs ys i nothing (omega (arith, h, length-map hs (λ h. open_with h.0 (events_of own h.0)))) (omega (arith, g, length-map gs (λ h. open_with h.0 (events_of others h.0)))) so_far
    (sym (unwrap_or-slice_get xs i nothing) ∙ ap (λ (o : Option OpenEvents). unwrap_or o nothing) is ∙ unwrap_or-slice_get ys i nothing)

-- what is listed of a file handle that is open
pub listed_open : (events : EventsData) (hs : List (ℕ × ℕ)) (fh : FhId) (handler : ℕ) → Some handler ≡ lookup (nat_eq fh.0) hs → events_for (open_events events hs) fh ≡ Some (open_with fh.0 (events_of events fh.0))
listed_open events [] fh handler there = cc
listed_open events (h ∷ hs) fh handler there = by (eqb_tells fh.0 h.0) (listed_open events hs fh handler)
  where
    by : Tells fh.0 h.0 → (Some handler ≡ lookup (nat_eq fh.0) hs → events_for (open_events events hs) fh ≡ Some (open_with fh.0 (events_of events fh.0))) → events_for (open_events events (h ∷ hs)) fh ≡ Some (open_with fh.0 (events_of events fh.0))
    by (inl here) further = rw here.0 (ap (λ (n : ℕ). Some (open_with n (events_of events n))) (sym here.1))
    by (inr other) further = rw other.0 (further (rw other.0 at there))

-- nothing is listed of one that isn't
pub unlisted : (events : EventsData) (hs : List (ℕ × ℕ)) (fh : FhId) → None ≡ lookup (nat_eq fh.0) hs → events_for (open_events events hs) fh ≡ None
unlisted events [] fh none = refl
unlisted events (h ∷ hs) fh none = by (eqb_tells fh.0 h.0) (unlisted events hs fh)
  where
    by : Tells fh.0 h.0 → (None ≡ lookup (nat_eq fh.0) hs → events_for (open_events events hs) fh ≡ None) → events_for (open_events events (h ∷ hs)) fh ≡ None
    by (inl here) further = let is : None ≡ Some h.1 = rw here.0 at none in cc
    by (inr other) further = rw other.0 (further (rw other.0 at none))

-- a state, with the flags and the forecasts of the steps that made it, shows what these make of a device
pub shown_made : (verdicts : Verdicts) (plan : PlanData) (steps : History) (state : StateData) (flags : List Flags) (rows : List Forecast) → IsMade verdicts plan steps state
    → flags ≡ all_flags verdicts plan (past steps) → rows ≡ forecast verdicts plan (past steps) → shown_of state flags rows ≡ scratch verdicts plan (past steps)
shown_made verdicts plan steps state flags rows made f b =
    let events : open_events state.events state.file_handles ≡ all_events verdicts plan (past steps) = events_made verdicts plan (past steps) state.events state.file_handles made.file_handles made.events in
    λ i. let s : ScratchData = record { ranges = (ranges_of made.controls) i; values = (values_of made.controls) i; flags = f i; frames = made.frames i; forecasts = b i; events = events i } in s
