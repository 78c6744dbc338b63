-- What each family of steps makes of a state.
use Rattle.std.proofs.Common.{◌≡◌, ℕ, ℤ, nat_eq, Bool, true, is_some, List, [], ◌∷◌, ◌++◌, length, Option, Some, None, Result, Ok, Err, OnOk, slice_set, refl, ap, sym, ◌∙◌, subst}
use Rattle.std.specs.Map.{remove_entry}
use Rattle.std.specs.Option.{option_map}
use Rattle.history.specs.declared.entry.Entry.{Entry}
use Rattle.history.specs.Past.{past}
use Rattle.ctrl_calls.specs.Meanings.{Verdicts}
use Rattle.ctrl_types.specs.declared.ids.FhId.{FhId}
use Rattle.ctrl_types.specs.declared.ids.Pair.{Pair}
use Rattle.ctrl_types.specs.declared.ids.RequestId.{RequestId}
use Rattle.ctrl_settle.specs.Control.{Control, with_range}
use Rattle.ctrl_settle.specs.Settle.{settled_anew}
use Rattle.ctrl_clusters.specs.ControlsData.{ControlsData, given_range}
use Rattle.ctrl_clusters.specs.Rows.{Values, value_at}
use Rattle.ctrl_events.specs.Events.{events_of, no_events, only_at}
use Rattle.ctrl_handlers.specs.Plan.{PlanData, control_in}
use Rattle.req_book.specs.Requests.{find}
use Rattle.req_book.specs.declared.state.RequestState.{RequestState}
use Rattle.frame_queue.specs.Frames.{FramesData, after_begin}
use Rattle.device_history.specs.declared.ask.Step.{Step}
use Rattle.device_history.specs.declared.ask.Step.TheVariants as kinds
use Rattle.device_history.specs.Steps.{History, Past}
use Rattle.device_history.specs.Handles.{opened, opened_after}
use Rattle.device_history.specs.Controls.{controls_after, controls_now}
use Rattle.device_history.specs.Ranges.{control_with_range, ranges_now}
use Rattle.device_history.specs.Requests.{asked, state}
use Rattle.device_history.specs.Values.{now}
use Rattle.device_history.specs.Snapshots.{begun_pairs, begun_values, frames, request, request_in}
use Rattle.device_history.specs.FrameSteps.{frames_after, frames_changed}
use Rattle.device_history.specs.EventSteps.{AreAround, events_after}
use Rattle.device_history.specs.Legal.{IsLegal, MayFollow}
use Rattle.device_history.proofs.FitLemmas.{fits}
use Rattle.device_history.proofs.RequestLemmas.{first_queued}
use Rattle.device_history.proofs.ControlsLemmas.{controls_more, values_of}
use Rattle.device_history.proofs.PastLemmas.{opened_rising, drops_one}
use Rattle.device_parts.specs.Leaving.{leaves_controls}
use Rattle.device_parts.specs.QueuedFrames.{pairs_in}
use Rattle.device_parts.specs.Sources.{IsSourceOf}
use Rattle.device_parts.proofs.FitLemmas.{found}
use Rattle.device_parts.proofs.LeavingLemmas.{controls_left, given_controls_left, opened_controls_left}
use Rattle.device_parts.specs.State.{IsMade, StateData}
use Rattle.device_history.specs.Laid.{applied_over, laid}
use Rattle.device_parts.specs.Makes.{Makes, MakesEverywhere}
use Rattle.device_parts.proofs.MadeLemmas.{made_add}

-- what both of two facts of a success say
pub of_both : {X E A B C : Type 0} (r : Result X E) → OnOk r A → OnOk r B → (A → B → C) → OnOk r C
of_both (Ok x) a b f = f a b
of_both (Err e) a b f = tt

-- an opening
pub makes_open : (number handler : ℕ) (old new : StateData) → new ≡ record old { file_handles = old.file_handles ++ (number, handler) ∷ [] } → MakesEverywhere number (kinds.OpenFh handler) old new
makes_open number handler old new is verdicts plan steps e many own made may = rw is
    (made_add verdicts plan steps old (record old { file_handles = old.file_handles ++ (number, handler) ∷ [] }) e made (rw own may)
    (rw own (ap (λ (os : List (ℕ × ℕ)). os ++ (number, handler) ∷ []) made.file_handles ∙ ap (λ (n : ℕ). opened (past steps) ++ (n, handler) ∷ []) (sym many)))
    (rw own made.controls) (rw own made.frames) (λ fh. rw own refl))

-- a close
pub makes_close : (number : ℕ) (fh : FhId) (old new : StateData)
    → new.file_handles ≡ remove_entry (nat_eq fh.0) old.file_handles → new.controls ≡ old.controls → new.frames ≡ old.frames
    → ((j : ℕ) → events_of new.events j ≡ only_at fh.0 (λ f. no_events) j (events_of old.events j)) → MakesEverywhere number (kinds.CloseFh fh) old new
makes_close number fh old new h c f ev verdicts plan steps e many own made may =
    made_add verdicts plan steps old new e made (rw own may)
    (rw own (h ∙ ap (remove_entry (nat_eq fh.0)) made.file_handles ∙ drops_one fh.0 (opened (past steps)) (opened_rising (past steps))))
    (rw own (c ∙ made.controls)) (rw own (f ∙ made.frames)) (λ j. rw own (ev j.0))

-- a step that leaves file handles and controls
pub makes_left : (verdicts : Verdicts) (plan : PlanData) (number : ℕ) (step : Step) (old new : StateData) → leaves_controls step ≡ true
    → new.file_handles ≡ old.file_handles → new.controls ≡ old.controls → new.frames ≡ frames_changed old.controls.values [] number step old.frames
    → ((e : Entry Step) (older : Past) → e.step ≡ step → old.controls ≡ controls_now verdicts plan older
    → (fh : FhId) → events_of new.events fh.0 ≡ events_after verdicts plan e older fh (events_of old.events fh.0)) → Makes verdicts plan number step old new
makes_left verdicts plan number step old new leaves h c f ev steps e many own made may =
    made_add verdicts plan steps old new e made (rw own may)
    (rw own (h ∙ made.file_handles ∙ sym (opened_controls_left (length steps) step (opened (past steps)) leaves)))
    (rw own (c ∙ made.controls ∙ sym (controls_left verdicts plan (past steps) step (controls_now verdicts plan (past steps)) leaves)))
    (rw own frames_are)
    (ev e (past steps) own made.controls)
  where
    frames_are : new.frames ≡ frames_after verdicts plan (past steps) (length steps) step (frames verdicts plan (past steps))
    frames_are =
        f ∙ ap (λ (n : ℕ). frames_changed old.controls.values [] n step old.frames) (sym many)
        ∙ ap (λ (v : Values). frames_changed v [] (length steps) step old.frames) (values_of made.controls)
        ∙ ap (frames_changed (now verdicts plan (past steps)) [] (length steps) step) made.frames
        ∙ ap (λ (l : List Pair). frames_changed (now verdicts plan (past steps)) l (length steps) step (frames verdicts plan (past steps))) (sym (given_controls_left verdicts plan (past steps) step leaves))

-- A step that changes controls and raises what differs between the moments before it and after it.
makes_raise : (verdicts : Verdicts) (plan of : PlanData) (steps : History) (old new : StateData) (e : Entry Step) (before after : ControlsData) (pairs : List Pair) (from : Option FhId)
    → IsMade verdicts plan steps old → MayFollow verdicts plan (past steps) e.step → new.file_handles ≡ opened_after (length steps) e.step (opened (past steps))
    → new.controls ≡ controls_after verdicts plan (past steps) e.step (controls_now verdicts plan (past steps)) → new.frames ≡ frames_after verdicts plan (past steps) (length steps) e.step (frames verdicts plan (past steps))
    → IsSourceOf verdicts plan (past steps) e.step pairs from → of ≡ plan → before ≡ old.controls → after ≡ new.controls
    → ((verdicts : Verdicts) (e : Entry Step) (older : Past) → AreAround verdicts of e older before after → IsSourceOf verdicts of older e.step pairs from
    → (fh : FhId) → events_of new.events fh.0 ≡ events_after verdicts of e older fh (events_of old.events fh.0)) → IsMade verdicts plan (steps ++ e ∷ []) new
makes_raise verdicts plan of steps old new e before after pairs from made may h c f source own was is raises = made_add verdicts plan steps old new e made may h c f raised
  where
    around : AreAround verdicts plan e (past steps) old.controls new.controls
    around = record { old = made.controls; new = c ∙ sym (controls_more verdicts plan e (past steps)) }

    raised : (fh : FhId) → events_of new.events fh.0 ≡ events_after verdicts plan e (past steps) fh (events_of old.events fh.0)
    raised =
        subst (λ (p : PlanData). AreAround verdicts p e (past steps) before after → IsSourceOf verdicts p (past steps) e.step pairs from → (fh : FhId) → events_of new.events fh.0 ≡ events_after verdicts p e (past steps) fh (events_of old.events fh.0)) own (raises verdicts e (past steps))
        (rw (was, is) around) source

-- a grab
pub makes_grab : (verdicts : Verdicts) (plan of : PlanData) (number c : ℕ) (on : Bool) (old new : StateData) (before after : ControlsData)
    → new.file_handles ≡ old.file_handles → new.controls ≡ record old.controls { grabs = slice_set old.controls.grabs c on } → new.frames ≡ old.frames
    → of ≡ plan → before ≡ old.controls → after ≡ new.controls
    → ((verdicts : Verdicts) (e : Entry Step) (older : Past) → AreAround verdicts of e older before after → IsSourceOf verdicts of older e.step [] None
    → (fh : FhId) → events_of new.events fh.0 ≡ events_after verdicts of e older fh (events_of old.events fh.0)) → Makes verdicts plan number (kinds.Grab c on) old new
makes_grab verdicts plan of number c on old new before after h is f own was will raises steps e many step made may =
    makes_raise verdicts plan of steps old new e before after [] None made (rw step may) (rw step (h ∙ made.file_handles))
    (rw step (is ∙ ap (λ (d : ControlsData). record d { grabs = slice_set d.grabs c on }) made.controls)) (rw step (f ∙ made.frames)) (rw step (refl, refl)) own was will raises

-- a set
pub makes_set : (verdicts : Verdicts) (plan of : PlanData) (number : ℕ) (from : FhId) (pairs : List Pair) (old new : StateData) (before after : ControlsData)
    → new.file_handles ≡ old.file_handles → new.controls ≡ record old.controls { values = laid verdicts plan old.controls pairs } → new.frames ≡ old.frames
    → of ≡ plan → before ≡ old.controls → after ≡ new.controls
    → ((verdicts : Verdicts) (e : Entry Step) (older : Past) → AreAround verdicts of e older before after → IsSourceOf verdicts of older e.step pairs (Some from)
    → (fh : FhId) → events_of new.events fh.0 ≡ events_after verdicts of e older fh (events_of old.events fh.0)) → Makes verdicts plan number (kinds.Set from pairs) old new
makes_set verdicts plan of number from pairs old new before after h is f own was will raises steps e many step made may =
    makes_raise verdicts plan of steps old new e before after pairs (Some from) made (rw step may) (rw step (h ∙ made.file_handles))
    (rw step (is ∙ ap (λ (d : ControlsData). record d { values = laid verdicts plan d pairs }) made.controls)) (rw step (f ∙ made.frames)) (rw step (refl, refl)) own was will raises

-- what a request asks for whose frame may begin
pub asked_made : (verdicts : Verdicts) (plan : PlanData) (steps : History) (kept : FramesData) (r : RequestId) → kept ≡ frames verdicts plan (past steps) → IsLegal verdicts plan (past steps) → MayFollow verdicts plan (past steps) (kinds.Begin r)
    → pairs_in (find kept.requests.all r.0) ≡ asked plan (past steps) r.0
unfolding request
asked_made verdicts plan steps kept r own legal may = ap pairs_in (found verdicts plan steps kept r.0 own legal) ∙ by (state (past steps) r.0) (ap is_some (first_queued (past steps) r.0 (fits verdicts plan (past steps) (kinds.Begin r) may).1.1))
  where
    by : (o : Option RequestState) → is_some o ≡ true → pairs_in (option_map (request_in verdicts plan (past steps) r.0) o) ≡ asked plan (past steps) r.0
    by None h = cc
    by (Some s) h = refl

-- what the begin of its frame makes of the values, and what it applies
pub begun_laid : (verdicts : Verdicts) (plan : PlanData) (steps : History) (state : StateData) (r : RequestId) → IsMade verdicts plan steps state → MayFollow verdicts plan (past steps) (kinds.Begin r)
    → laid verdicts plan state.controls (pairs_in (find state.frames.requests.all r.0)) ≡ begun_values verdicts plan (past steps) r.0
begun_laid verdicts plan steps state r made may =
    let asks = asked_made verdicts plan steps state.frames r made.frames made.legal may in
    λ i. laid verdicts plan (made.controls i) (asks i)

pub begun_applied : (verdicts : Verdicts) (plan : PlanData) (steps : History) (state : StateData) (r : RequestId) → IsMade verdicts plan steps state → MayFollow verdicts plan (past steps) (kinds.Begin r)
    → applied_over verdicts plan state.controls (pairs_in (find state.frames.requests.all r.0)) ≡ begun_pairs verdicts plan (past steps) r.0
begun_applied verdicts plan steps state r made may =
    let asks = asked_made verdicts plan steps state.frames r made.frames made.legal may in
    λ i. applied_over verdicts plan (made.controls i) (asks i)

-- the begin of a frame
pub makes_begin : (verdicts : Verdicts) (plan of : PlanData) (number : ℕ) (r : RequestId) (given : List Pair) (old new : StateData) (before after : ControlsData)
    → given ≡ applied_over verdicts plan old.controls (pairs_in (find old.frames.requests.all r.0)) → new.file_handles ≡ old.file_handles
    → new.controls ≡ record old.controls { values = laid verdicts plan old.controls (pairs_in (find old.frames.requests.all r.0)) } → new.frames ≡ after_begin old.frames given
    → of ≡ plan → before ≡ old.controls → after ≡ new.controls
    → ((verdicts : Verdicts) (e : Entry Step) (older : Past) → AreAround verdicts of e older before after → IsSourceOf verdicts of older e.step given None
    → (fh : FhId) → events_of new.events fh.0 ≡ events_after verdicts of e older fh (events_of old.events fh.0)) → Makes verdicts plan number (kinds.Begin r) old new
makes_begin verdicts plan of number r given old new before after giving h is f own was will raises steps e many step made may =
    makes_raise verdicts plan of steps old new e before after given None made (rw step may) (rw step (h ∙ made.file_handles))
    (rw step (is ∙ (λ i. record (made.controls i) { values = laid verdicts plan (made.controls i) (asked_made verdicts plan steps old.frames r made.frames made.legal may i) }))) (rw step (f ∙ ap (after_begin old.frames) pairs ∙ ap (λ (k : FramesData). after_begin k (begun_pairs verdicts plan (past steps) r.0)) made.frames)) (rw step (pairs, refl)) own was will raises
  where
    pairs : given ≡ begun_pairs verdicts plan (past steps) r.0
    pairs = giving ∙ begun_applied verdicts plan steps old r made may

-- a range change
pub makes_range : (verdicts : Verdicts) (plan : PlanData) (number c : ℕ) (changed : Control) (low high : ℤ) (apart : ℕ) (default_value : ℤ) (old new : StateData)
    → changed ≡ with_range (control_in old.controls.ranges c) low high apart default_value
    → new.file_handles ≡ old.file_handles → new.controls ≡ given_range old.controls c changed (settled_anew changed (value_at old.controls.values c)) → new.frames ≡ old.frames
    → ((e : Entry Step) (older : Past) → e.step ≡ kinds.ModifyRange c low high apart default_value → old.controls ≡ controls_now verdicts plan older
    → (fh : FhId) → events_of new.events fh.0 ≡ events_after verdicts plan e older fh (events_of old.events fh.0)) → Makes verdicts plan number (kinds.ModifyRange c low high apart default_value) old new
makes_range verdicts plan number c changed low high apart default_value old new is h controls f ev steps e many step made may =
    made_add verdicts plan steps old new e made (rw step may) (rw step (h ∙ made.file_handles))
    (rw step (controls ∙ (λ i. given_range (made.controls i) c (own i) (settled_anew (own i) (value_at (made.controls i).values c)))))
    (rw step (f ∙ made.frames)) (ev e (past steps) step made.controls)
  where
    own : changed ≡ control_with_range (ranges_now plan (past steps)) c low high apart default_value
    own = is ∙ ap (λ (d : ControlsData). with_range (control_in d.ranges c) low high apart default_value) made.controls
