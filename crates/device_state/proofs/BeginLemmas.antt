-- The begin of a frame: what it is answered, and what it leaves.
use Rattle.std.proofs.Common.{◌≡◌, ℕ, false, List, [], ◌∷◌, ◌++◌, ◌<◌, length, map, drop, slice_get, subst, Option, None, Some, Result, Ok, Err, refl, ap, sym, ◌∙◌, arith, inl, inr}
use Rattle.std.proofs.lemmas.List.{length-map}
use Rattle.history.specs.Past.{past}
use Rattle.ctrl_types.specs.Checks.{with_errno}
use Rattle.ctrl_types.specs.declared.check.Check.{Check}
use Rattle.ctrl_types.specs.declared.check.Check.TheVariants.{MemoryRefused}
use Rattle.ctrl_types.specs.declared.errno.Errno.{Errno}
use Rattle.ctrl_types.specs.declared.ids.Pair.{Pair}
use Rattle.ctrl_types.specs.declared.ids.RequestId.{RequestId}
use Rattle.ctrl_calls.specs.Meanings.{Verdicts, Words}
use Rattle.ctrl_calls.specs.declared.work.Work.{Work}
use Rattle.device_history.specs.Ranges.{ranges_now}
use Rattle.ctrl_settle.specs.Control.{Control}
use Rattle.ctrl_handlers.specs.Plan.{PlanData, members}
use Rattle.ctrl_clusters.specs.Rows.{Grabs, Values, row_of}
use Rattle.ctrl_clusters.specs.Changes.{members_change}
use Rattle.ctrl_clusters.specs.Notified.{AreNotified}
use Rattle.ctrl_clusters.proofs.NotifyLemmas.{words_between}
use Rattle.req_book.specs.Requests.{find}
use Rattle.frame_queue.specs.Frames.{FramesData, begin_answer, buffer_number, next_frame}
use Rattle.device_history.specs.declared.ask.Ask.TheVariants as asks
use Rattle.device_history.specs.declared.ask.Reply.{Reply}
use Rattle.device_history.specs.declared.ask.Reply.TheVariants.{Frame}
use Rattle.device_history.specs.declared.ask.Step.{Step}
use Rattle.device_history.specs.declared.ask.Step.TheVariants.{Begin}
use Rattle.device_history.specs.Steps.{History, Past}
use Rattle.device_history.specs.Refusals.{fault_of, is_full, refused, stepped, stepped_with}
use Rattle.device_history.specs.Frames.{first_of, queue, running}
use Rattle.device_history.specs.Values.{now}
use Rattle.device_history.specs.Snapshots.{begun_pairs, begun_refused, begun_values, frames, requests}
use Rattle.device_history.specs.RequestAnswers.{begin_frame_answer, frame_reply}
use Rattle.device_history.specs.Answers.{MayAnswer, step_of}
use Rattle.device_history.specs.Legal.{MayFollow}
use Rattle.ctrl_clusters.proofs.OverlayLemmas.{length_overlay}
use Rattle.device_history.specs.Grabs.{grabbed}
use Rattle.device_history.specs.Requests.{asked}
use Rattle.device_history.proofs.PresentLemmas.{length_now}
use Rattle.device_state.specs.Beginning.{IsBegun}
use Rattle.device_state.specs.Changed.{IsChangedBy}
use Rattle.device_state.specs.Device.{DeviceData, Handles}
use Rattle.device_parts.specs.Makes.{Makes}
use Rattle.device_parts.specs.State.{StateData, IsMade}
use Rattle.device_state.specs.Kept.{Caches, IsKept}
use Rattle.device_state.proofs.HandleLemmas.{at_rest, handles_changed}
use Rattle.device_state.proofs.ForecastLemmas.{forecast_each, none_within}
use Rattle.device_history.proofs.StretchLemmas.{begun_row}
use Rattle.ctrl_forecast.specs.Boards.{BoardData, named_clusters}
use Rattle.ctrl_forecast.specs.Forecasts.{QueuedData, forecasts}
use Rattle.ctrl_forecast.specs.declared.board.Forecast.{Forecast}
use Rattle.ctrl_clusters.specs.Overlay.{overlay}
use Rattle.device_history.specs.Forecasts.{board, forecast, queued_frame, queued_frames, board_over}
use Rattle.device_state.proofs.KeptLemmas.{kept_makes, set_room}
use Rattle.ctrl_clusters.specs.ControlsData.{ControlsData}
use Rattle.device_state.proofs.BoardLemmas.{board_same}
use Rattle.device_history.specs.Controls.{controls_now}
use Rattle.device_history.proofs.ControlsLemmas.{controls_add}
use Rattle.device_history.specs.Laid.{laid}
use Rattle.history.specs.declared.entry.Entry.{Entry}

-- what a begin is answered by its queue, where none runs
answered_first : (verdicts : Verdicts) (plan : PlanData) (older : Past) (r : ℕ) → running older ≡ None → first_of (queue older) ≡ Some r
    → next_frame (frames verdicts plan older) ≡ Ok (r, buffer_number (find (requests verdicts plan older) r))
answered_first verdicts plan older r free first = by (running older) (queue older) free first
  where
    by : (runs : Option ℕ) (waits : List ℕ) → runs ≡ None → first_of waits ≡ Some r → next_frame (record (frames verdicts plan older) { queue = waits; running = runs }) ≡ Ok (r, buffer_number (find (requests verdicts plan older) r))
    by None [] f h = cc
    by None (k ∷ rest) f h = ap (λ (j : ℕ). Ok (j, buffer_number (find (requests verdicts plan older) j))) (same k r h)
      where
        same : (a b : ℕ) → Some a ≡ Some b → a ≡ b
        same a b h = cc
    by (Some k) waits f h = cc

-- the answer where a frame can begin
begin_is : (verdicts : Verdicts) (plan : PlanData) (older : Past) (r : ℕ) → running older ≡ None → first_of (queue older) ≡ Some r
    → begin_frame_answer verdicts plan older ≡ stepped None older (Frame (record { 0 = r }) (buffer_number (find (requests verdicts plan older) r)) (begun_refused verdicts plan older r))
begin_is verdicts plan older r free first = ap (λ (next : Result (ℕ × ℕ) Check). stepped_with (frame_reply verdicts plan older) next older) (answered_first verdicts plan older r free first)

-- it is accepted where there is room
begin_accepted : (verdicts : Verdicts) (plan : PlanData) (older : Past) (r : ℕ) → running older ≡ None → first_of (queue older) ≡ Some r → is_full older ≡ false
    → begin_frame_answer verdicts plan older ≡ Ok (Frame (record { 0 = r }) (buffer_number (find (requests verdicts plan older) r)) (begun_refused verdicts plan older r))
begin_accepted verdicts plan older r free first room = begin_is verdicts plan older r free first ∙ rw room refl

-- want of memory
pub begin_lacks : (verdicts : Verdicts) (plan : PlanData) (older : Past) (words : List ℕ) (r : ℕ) → running older ≡ None → first_of (queue older) ≡ Some r → is_full older ≡ false
    → MayAnswer verdicts plan older words asks.Begin (refused MemoryRefused)
begin_lacks verdicts plan older words r free first room = inr (rw (begin_accepted verdicts plan older r free first room) refl, refl)

-- the reply
pub begin_reply : (verdicts : Verdicts) (plan : PlanData) (older : Past) (r id buffer : ℕ) (f : FramesData) → running older ≡ None → first_of (queue older) ≡ Some r → is_full older ≡ false
    → f ≡ frames verdicts plan older → begin_answer f ≡ Ok (id, buffer) → begin_frame_answer verdicts plan older ≡ Ok (Frame (record { 0 = r }) buffer (begun_refused verdicts plan older r))
begin_reply verdicts plan older r id buffer f free first room own is =
    begin_accepted verdicts plan older r free first room
    ∙ ap (λ (n : ℕ). Ok (Frame (record { 0 = r }) n (begun_refused verdicts plan older r))) (same r (buffer_number (find (requests verdicts plan older) r)) id buffer (sym (ap with_errno (answered_first verdicts plan older r free first)) ∙ sym (ap begin_answer own) ∙ is))
  where
    number : Result (ℕ × ℕ) Errno → ℕ
    number (Ok p) = p.1
    number (Err e) = 0

    same : (a b c d : ℕ) → ◌≡◌ {A = Result (ℕ × ℕ) Errno} (Ok (a, b)) (Ok (c, d)) → b ≡ d
    same a b c d h = ap number h

-- its step may follow
begin_adds : (verdicts : Verdicts) (plan : PlanData) (older : Past) (r : ℕ) → first_of (queue older) ≡ Some r → step_of verdicts plan older asks.Begin ≡ Some (Begin (record { 0 = r }))
begin_adds verdicts plan older r first = rw first refl

pub begin_follows : (verdicts : Verdicts) (plan : PlanData) (older : Past) (r : ℕ) → running older ≡ None → first_of (queue older) ≡ Some r → is_full older ≡ false → MayFollow verdicts plan older (Begin (record { 0 = r }))
begin_follows verdicts plan older r free first room = (asks.Begin, ap fault_of (begin_accepted verdicts plan older r free first room), begin_adds verdicts plan older r first)

-- there is a value for each control
pub length_begun : (verdicts : Verdicts) (plan : PlanData) (older : Past) (r : ℕ) → length (begun_values verdicts plan older r) ≡ length plan.controls
length_begun verdicts plan older r = length_overlay verdicts plan (ranges_now plan older) (now verdicts plan older) (grabbed plan older) (asked plan older r) ∙ length_now verdicts plan older

-- the first row of a forecast is of the frame that begins
pub begun_first : (verdicts : Verdicts) (plan : PlanData) (older : Past) (r : ℕ) (row : Forecast) → running older ≡ None → first_of (queue older) ≡ Some r → slice_get (forecast verdicts plan older) 0 ≡ Some row
    → (row.values ≡ begun_values verdicts plan older r) × (row.refused ≡ begun_refused verdicts plan older r)
begun_first verdicts plan older r row free first stood =
    let is = begun_row verdicts plan older (record { 0 = r }) row (refl, (free, first)) stood in
    (ap (λ (f : Forecast). f.values) is, ap (λ (f : Forecast). f.refused) is)

-- some number is the first of no empty list
some_first : (ids : List ℕ) (r : ℕ) → first_of ids ≡ Some r → 0 < length ids
some_first [] r h = cc
some_first (j ∷ ids) r h = omega arith

-- and there is one
pub begun_some : (verdicts : Verdicts) (plan : PlanData) (older : Past) (r : ℕ) → first_of (queue older) ≡ Some r → slice_get (forecast verdicts plan older) 0 ≡ None → ⊥
begun_some verdicts plan older r first none =
    none_within (forecast verdicts plan older) 0 (subst (λ (n : ℕ). 0 < n) (sym (forecast_each verdicts plan older)) (some_first (queue older) r first)) none

-- its frame is queued
pub frames_queued : (plan : PlanData) (older : Past) (r : ℕ) → first_of (queue older) ≡ Some r → 0 < length (queued_frames plan older)
frames_queued plan older r first = subst (λ (n : ℕ). 0 < n) (sym (length-map (queue older) (queued_frame plan older))) (some_first (queue older) r first)

-- the rows behind the first
rows_behind : (verdicts : Verdicts) (plan : PlanData) (controls : List Control) (grabs : Grabs) (values : Values) (q : QueuedData) (qs : List QueuedData)
    → drop 1 (forecasts verdicts plan controls values grabs (q ∷ qs)) ≡ forecasts verdicts plan controls (overlay verdicts plan controls values grabs q.asked) grabs qs
unfolding forecasts
rows_behind verdicts plan controls grabs values q qs = refl

-- what is kept of the queued frames after a begin
pub begun_board : (verdicts : Verdicts) (plan : PlanData) (older : Past) (r : ℕ) (old new : BoardData) → old ≡ board verdicts plan older → first_of (queue older) ≡ Some r
    → new.queued ≡ drop 1 old.queued → new.named ≡ drop 1 old.named → new.forecasts ≡ drop 1 old.forecasts
    → new ≡ board_over verdicts plan (record (controls_now verdicts plan older) { values = begun_values verdicts plan older r }) (drop 1 (queued_frames plan older))
begun_board verdicts plan older r old new own first q n f = by (queue older) refl first
  where
    c : ControlsData
    c = controls_now verdicts plan older

    parts : {a b : BoardData} → a.queued ≡ b.queued → a.named ≡ b.named → a.forecasts ≡ b.forecasts → a ≡ b
    parts x y z = rw (x, y, z) refl

    by : (ids : List ℕ) → queue older ≡ ids → first_of ids ≡ Some r → new ≡ board_over verdicts plan (record c { values = begun_values verdicts plan older r }) (drop 1 (queued_frames plan older))
    by [] is h = cc
    by (j ∷ ids) is h =
        let same : j ≡ r = own_first j h in
        let whole : old ≡ board_over verdicts plan c (queued_frame plan older j ∷ map (queued_frame plan older) ids) =
        own ∙ ap (λ (js : List ℕ). board_over verdicts plan c (map (queued_frame plan older) js)) is in
        parts (q ∙ ap (λ (b : BoardData). drop 1 b.queued) own) (n ∙ ap (λ (b : BoardData). drop 1 b.named) whole ∙ ap (λ (js : List ℕ). map (λ x. named_clusters plan x.asked) (drop 1 (map (queued_frame plan older) js))) (sym is))
        (f ∙ ap (λ (b : BoardData). drop 1 b.forecasts) whole
        ∙ rows_behind verdicts plan c.ranges c.grabs c.values (queued_frame plan older j) (map (queued_frame plan older) ids)
        ∙ ap (λ (k : ℕ). forecasts verdicts plan c.ranges (laid verdicts plan c (asked plan older k)) c.grabs (map (queued_frame plan older) ids)) same
        ∙ ap (λ (js : List ℕ). forecasts verdicts plan c.ranges (begun_values verdicts plan older r) c.grabs (drop 1 (map (queued_frame plan older) js))) (sym is))
      where
        own_first : (j : ℕ) → Some j ≡ Some r → j ≡ r
        own_first j h = cc

-- what the begin of the first frame that waits is answered by its queue, where none runs
pub begin_answered : (f : FramesData) (r : ℕ) → f.running ≡ None → slice_get f.queue 0 ≡ Some r → begin_answer f ≡ Ok (r, buffer_number (find f.requests.all r))
begin_answered f r free first = by f.running f.queue free first
  where
    same : (a b : ℕ) → Some a ≡ Some b → a ≡ b
    same a b h = cc

    by : (runs : Option ℕ) (waits : List ℕ) → runs ≡ None → slice_get waits 0 ≡ Some r → begin_answer (record f { queue = waits; running = runs }) ≡ Ok (r, buffer_number (find f.requests.all r))
    by None [] none h = cc
    by None (k ∷ rest) none h = ap (λ (n : ℕ). Ok (n, buffer_number (find f.requests.all n))) (same k r h)
    by (Some k) waits none h = cc

-- what is kept after a begin
pub kept_begin : (verdicts : Verdicts) (told : Words) (plan : PlanData) (entries entries' : History) (caches : Caches) (state : StateData) (b : BoardData) (words : List ℕ) (applied : List Pair) (seat : ℕ) (r : RequestId)
    → IsKept verdicts told plan entries caches → IsBegun verdicts plan (past entries) r.0 applied → entries' ≡ entries ++ record { seat = seat; step = Begin r } ∷ []
    → Makes verdicts plan (length entries) (Begin r) caches.state state
    → AreNotified told plan (members_change plan caches.state.controls.values state.controls.values applied) (λ k. row_of state.controls.values (members plan k)) caches.words words
    → b ≡ board_over verdicts plan (record (controls_now verdicts plan (past entries)) { values = begun_values verdicts plan (past entries) r.0 }) (drop 1 (queued_frames plan (past entries)))
    → IsKept verdicts told plan entries' (record caches { state = state; board = b; words = words })
kept_begin verdicts told plan entries entries' caches state b words applied seat r kept begun s makes renewed popped =
    kept_makes verdicts told plan entries entries' caches (record caches { state = state; board = b; words = words }) e kept (set_room entries begun.room) may s makes
    (words_between told plan caches.state.controls.values state.controls.values applied caches.words words kept.words renewed)
    (drop 1 (queued_frames plan (past entries))) (popped ∙ board_same verdicts plan (sym (made.controls ∙ controls_add verdicts plan entries e)) refl) refl
  where
    e : Entry Step
    e = record { seat = seat; step = Begin r }

    may : MayFollow verdicts plan (past entries) (Begin r)
    may = begin_follows verdicts plan (past entries) r.0 begun.free begun.first begun.room

    made : IsMade verdicts plan (entries ++ e ∷ []) state
    made = makes entries e refl refl kept.made may

-- a begin that is accepted
pub handles_begin : (verdicts : Verdicts) (told : Words) (old between new : DeviceData) (work : Work) (seat r : ℕ) (reply : Reply) → between ≡ record old { work = work } → work ≡ at_rest
    → first_of (queue (past old.steps)) ≡ Some r → begin_frame_answer verdicts old.plan (past old.steps) ≡ Ok reply
    → IsChangedBy verdicts told between new seat (Begin (record { 0 = r })) (begun_pairs verdicts old.plan (past old.steps) r) 0 → Handles verdicts old new seat asks.Begin (Ok reply)
handles_begin verdicts told old between new work seat r reply begin rest first is does =
    handles_changed verdicts told old between new work seat asks.Begin (Begin (record { 0 = r })) (begun_pairs verdicts old.plan (past old.steps) r) 0 reply begin (inl (sym is)) (begin_adds verdicts old.plan (past old.steps) r first) refl
    (omega (arith, ap (λ (w : Work). w.asked) rest)) (omega arith) does
