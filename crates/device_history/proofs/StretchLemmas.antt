-- What becomes of a forecast while a history goes on, and of the frames that it is of.
use Rattle.std.proofs.Common.{◌≡◌, ℕ, ◌+◌, zero, suc, ◌∙◌, Bool, true, false, cond, List, [], ◌∷◌, ◌++◌, length, map, filter, drop, Option, None, Some, is_some, slice_get, unwrap_or, Result, Ok, refl, sym, ap, subst, arith, append-nil, append_assoc}
use Rattle.std.specs.Option.{option_map}
use Rattle.std.proofs.lemmas.Bool.{and_parts}
use Rattle.history.specs.declared.entry.Entry.{Entry}
use Rattle.history.specs.Past.{past}
use Rattle.history.proofs.Pasts.{past_add}
use Rattle.ctrl_types.specs.Classes.{which_of}
use Rattle.ctrl_types.specs.declared.check.Check.{Check}
use Rattle.ctrl_types.specs.declared.check.Check.TheVariants.{HistoryFull}
use Rattle.ctrl_types.specs.declared.ids.FhId.{FhId}
use Rattle.ctrl_types.specs.declared.sub_flags.SubFlags.{SubFlags}
use Rattle.device_history.specs.Handles.{shown}
use Rattle.device_history.specs.Events.{pending}
use Rattle.device_history.specs.EventAnswers.{first_control}
use Rattle.ctrl_types.specs.declared.ids.Pair.{Pair}
use Rattle.ctrl_types.specs.declared.ids.RequestId.{RequestId}
use Rattle.ctrl_calls.specs.Meanings.{Verdicts}
use Rattle.ctrl_settle.specs.Control.{Control}
use Rattle.ctrl_handlers.specs.Plan.{PlanData}
use Rattle.ctrl_clusters.specs.Rows.{Values, Grabs}
use Rattle.ctrl_clusters.specs.Overlay.{overlay}
use Rattle.ctrl_forecast.specs.declared.board.Forecast.{Forecast}
use Rattle.ctrl_forecast.specs.Forecasts.{QueuedData, forecast_over, forecasts}
use Rattle.req_book.specs.declared.state.RequestState.TheVariants as states
use Rattle.req_book.specs.Requests.{RequestData, find}
use Rattle.frame_queue.specs.Frames.{next_frame, buffer_number, first_waiting}
use Rattle.device_history.specs.declared.ask.Ask.{Ask}
use Rattle.device_history.specs.declared.ask.Ask.TheVariants as asks
use Rattle.device_history.specs.declared.ask.Reply.{Reply}
use Rattle.device_history.specs.declared.ask.Reply.TheVariants as replies
use Rattle.device_history.specs.declared.ask.Step.{Step}
use Rattle.device_history.specs.declared.ask.Step.TheVariants as steps
use Rattle.device_history.specs.Steps.{History, Past}
use Rattle.device_history.specs.Ranges.{ranges_after, ranges_now}
use Rattle.device_history.specs.Refusals.{fault_of, is_full, stepped, stepped_with, unless_refused}
use Rattle.device_history.specs.Grabs.{grabbed, grabbed_after}
use Rattle.device_history.specs.Requests.{asked, buffer}
use Rattle.device_history.specs.Frames.{begun_by, queue, running}
use Rattle.device_history.specs.Values.{now, values_after}
use Rattle.device_history.specs.Snapshots.{request_in, requests, frames, begun_refused}
use Rattle.device_history.specs.RequestAnswers.{begin_frame_answer, frame_reply}
use Rattle.device_history.specs.Lists.{list_pairs, meant, pairs_step, which_or}
use Rattle.device_history.specs.Answers.{refusal, step_of, answer_of}
use Rattle.device_history.specs.Legal.{IsLegal, MayFollow}
use Rattle.device_history.specs.FrameSteps.{FitsFrames}
use Rattle.device_history.specs.Forecasts.{queued_frame, queued_frames, waiting_after, forecast}
use Rattle.device_history.specs.Stretches.{goes_on, all_go_on, begins}
use Rattle.device_history.proofs.AllFit.{AllFit}
use Rattle.device_history.proofs.QueuedFrames.{frames_waiting}
use Rattle.device_history.proofs.RequestLemmas.{request_some, first_queued}
use Rattle.device_history.proofs.FrameLemmas.{find_request, first_waits}
use Rattle.device_history.proofs.GrabLemmas.{grabbed_more}
use Rattle.device_history.proofs.PastLemmas.{legal_front, legal_last}
use Rattle.device_history.proofs.FitLemmas.{fits, all_fit}
use Rattle.device_history.proofs.RangeLemmas.{ranges_more}

-- a row stands as it did where further frames are queued
row_stands : (verdicts : Verdicts) (plan : PlanData) (controls : List Control) (grabs : Grabs) (values : Values) (qs more : List QueuedData) (i : ℕ) (row : Forecast)
    → slice_get (forecasts verdicts plan controls values grabs qs) i ≡ Some row → slice_get (forecasts verdicts plan controls values grabs (qs ++ more)) i ≡ Some row
unfolding forecasts
row_stands verdicts plan controls grabs values [] more i row is = cc
row_stands verdicts plan controls grabs values (q ∷ qs) more zero row is = is
row_stands verdicts plan controls grabs values (q ∷ qs) more (suc i) row is = row_stands verdicts plan controls grabs (overlay verdicts plan controls values grabs q.asked) qs more i row is

-- a forecast is of the ranges, the grabs, the present values and the queued frames
forecast_of : (verdicts : Verdicts) (plan : PlanData) (l m : List Control) (a b : Grabs) (v w : Values) (q p : List QueuedData) → l ≡ m → a ≡ b → v ≡ w → q ≡ p → forecasts verdicts plan l v a q ≡ forecasts verdicts plan m w b p
forecast_of verdicts plan l m a b v w q p r x y z = rw (r, x, y, z) refl

-- the forecast, where a request is the first of the queue
first_row : (verdicts : Verdicts) (plan : PlanData) (older : Past) (r : ℕ) (ids : List ℕ) → queue older ≡ r ∷ ids
    → forecast verdicts plan older ≡ forecast_over verdicts plan (ranges_now plan older) (now verdicts plan older) (grabbed plan older) (queued_frame plan older r)
    ∷ forecasts verdicts plan (ranges_now plan older) (overlay verdicts plan (ranges_now plan older) (now verdicts plan older) (grabbed plan older) (asked plan older r)) (grabbed plan older) (map (queued_frame plan older) ids)
unfolding forecasts
first_row verdicts plan older r ids is = ap (λ (js : List ℕ). forecasts verdicts plan (ranges_now plan older) (now verdicts plan older) (grabbed plan older) (map (queued_frame plan older) js)) is

-- the present values once a frame is begun
begun_now : (verdicts : Verdicts) (plan : PlanData) (e : Entry Step) (older : Past) (r : RequestId) → e.step ≡ steps.Begin r
    → now verdicts plan (e ∷ older) ≡ overlay verdicts plan (ranges_now plan older) (now verdicts plan older) (grabbed plan older) (asked plan older r.0)
unfolding now
begun_now verdicts plan e older r is = ap (λ (s : Step). values_after verdicts plan older s (now verdicts plan older)) is

-- a row behind the first
row_behind : (verdicts : Verdicts) (plan : PlanData) (controls : List Control) (grabs : Grabs) (values : Values) (q : QueuedData) (qs : List QueuedData) (i : ℕ)
    → slice_get (forecasts verdicts plan controls values grabs (q ∷ qs)) (suc i) ≡ slice_get (forecasts verdicts plan controls (overlay verdicts plan controls values grabs q.asked) grabs qs) i
unfolding forecasts
row_behind verdicts plan controls grabs values q qs i = refl

-- a row of a forecast once a history goes on by one more step: a begin moves it up
next_row : (verdicts : Verdicts) (plan : PlanData) (e : Entry Step) (older : Past) (i : ℕ) (row : Forecast) → AllFit verdicts plan older → FitsFrames verdicts plan older e.step → goes_on e.step ≡ true
    → slice_get (forecast verdicts plan older) (cond (is_some (begun_by e.step)) (suc i) i) ≡ Some row → slice_get (forecast verdicts plan (e ∷ older)) i ≡ Some row
unfolding now
next_row verdicts plan e older i row fit fits on stood = by e.step refl fits on stood
  where
    stays : (step : Step) → e.step ≡ step → (added : List QueuedData) → waiting_after plan older step (queued_frames plan older) ≡ queued_frames plan older ++ added
        → grabbed_after step (grabbed plan older) ≡ grabbed plan older → ranges_after step (ranges_now plan older) ≡ ranges_now plan older → values_after verdicts plan older step (now verdicts plan older) ≡ now verdicts plan older
        → slice_get (forecast verdicts plan older) i ≡ Some row → slice_get (forecast verdicts plan (e ∷ older)) i ≡ Some row
    stays step is added line grabs ranges values stood =
        ap (λ (rows : List Forecast). slice_get rows i)
        (forecast_of verdicts plan (ranges_now plan (e ∷ older)) (ranges_now plan older) (grabbed plan (e ∷ older)) (grabbed plan older) (now verdicts plan (e ∷ older)) (now verdicts plan older) (queued_frames plan (e ∷ older)) (queued_frames plan older ++ added)
        (ranges_more plan e older ∙ ap (λ (s : Step). ranges_after s (ranges_now plan older)) is ∙ ranges)
        (grabbed_more plan e older ∙ ap (λ (s : Step). grabbed_after s (grabbed plan older)) is ∙ grabs)
        (ap (λ (s : Step). values_after verdicts plan older s (now verdicts plan older)) is ∙ values)
        (frames_waiting verdicts plan e older fit fits ∙ ap (λ (s : Step). waiting_after plan older s (queued_frames plan older)) is ∙ line))
        ∙ row_stands verdicts plan (ranges_now plan older) (grabbed plan older) (now verdicts plan older) (queued_frames plan older) added i row stood

    same : (step : Step) → e.step ≡ step → waiting_after plan older step (queued_frames plan older) ≡ queued_frames plan older
        → grabbed_after step (grabbed plan older) ≡ grabbed plan older → ranges_after step (ranges_now plan older) ≡ ranges_now plan older → values_after verdicts plan older step (now verdicts plan older) ≡ now verdicts plan older
        → slice_get (forecast verdicts plan older) i ≡ Some row → slice_get (forecast verdicts plan (e ∷ older)) i ≡ Some row
    same step is line grabs ranges values stood = stays step is [] (line ∙ sym (append-nil (queued_frames plan older))) grabs ranges values stood

    begun : (r : RequestId) → e.step ≡ steps.Begin r → FitsFrames verdicts plan older (steps.Begin r) → slice_get (forecast verdicts plan older) (suc i) ≡ Some row → slice_get (forecast verdicts plan (e ∷ older)) i ≡ Some row
    begun r is fits_it stood =
        let first = first_waits (queue older) r.0 fits_it.1.1 in
        let frames : queued_frames plan older ≡ queued_frame plan older r.0 ∷ map (queued_frame plan older) first.0 = ap (map (queued_frame plan older)) first.1 in
        ap (λ (rows : List Forecast). slice_get rows i)
        (forecast_of verdicts plan (ranges_now plan (e ∷ older)) (ranges_now plan older) (grabbed plan (e ∷ older)) (grabbed plan older) (now verdicts plan (e ∷ older)) (overlay verdicts plan (ranges_now plan older) (now verdicts plan older) (grabbed plan older) (asked plan older r.0)) (queued_frames plan (e ∷ older)) (map (queued_frame plan older) first.0)
        (ranges_more plan e older ∙ ap (λ (s : Step). ranges_after s (ranges_now plan older)) is)
        (grabbed_more plan e older ∙ ap (λ (s : Step). grabbed_after s (grabbed plan older)) is)
        (begun_now verdicts plan e older r is)
        (frames_waiting verdicts plan e older fit fits ∙ ap (λ (s : Step). waiting_after plan older s (queued_frames plan older)) is ∙ ap (drop 1) frames))
        ∙ sym (row_behind verdicts plan (ranges_now plan older) (grabbed plan older) (now verdicts plan older) (queued_frame plan older r.0) (map (queued_frame plan older) first.0) i)
        ∙ sym (ap (λ (qs : List QueuedData). slice_get (forecasts verdicts plan (ranges_now plan older) (now verdicts plan older) (grabbed plan older) qs) (suc i)) frames) ∙ stood

    by : (step : Step) → e.step ≡ step → FitsFrames verdicts plan older step → goes_on step ≡ true
        → slice_get (forecast verdicts plan older) (cond (is_some (begun_by step)) (suc i) i) ≡ Some row → slice_get (forecast verdicts plan (e ∷ older)) i ≡ Some row
    by (steps.Set fh pairs) is fits_it on stood = cc
    by (steps.Grab c on_it) is fits_it on stood = cc
    by (steps.ModifyRange c low high apart default_value) is fits_it on stood = cc
    by (steps.Queue r) is fits_it on stood = stays _ is (queued_frame plan older r.0 ∷ []) refl refl refl refl stood
    by (steps.Begin r) is fits_it on stood = begun r is fits_it stood
    by (steps.Cancel r) is fits_it on stood = cc
    by steps.StreamOff is fits_it on stood = cc
    by _ is fits_it on stood = same _ is refl refl refl refl stood

-- the rows of a forecast stand while a legal history goes on; each frame that is begun moves them up
pub rows_stand : (verdicts : Verdicts) (plan : PlanData) (entries more : History) (i : ℕ) (row : Forecast) → IsLegal verdicts plan (past (entries ++ more)) → all_go_on more ≡ true
    → slice_get (forecast verdicts plan (past entries)) (begins more + i) ≡ Some row → slice_get (forecast verdicts plan (past (entries ++ more))) i ≡ Some row
rows_stand verdicts plan entries [] i row legal on stood =
    let none : 0 + i ≡ i = omega arith in
    rw (append-nil entries) (rw none at stood)
rows_stand verdicts plan entries (e ∷ more) i row legal on stood =
    let on_each = and_parts (goes_on e.step) (all_go_on more) on in
    let joined : (entries ++ e ∷ []) ++ more ≡ entries ++ e ∷ more = append_assoc entries (e ∷ []) more in
    let legal_joined : IsLegal verdicts plan (past ((entries ++ e ∷ []) ++ more)) = subst (λ (es : History). IsLegal verdicts plan (past es)) (sym joined) legal in
    let legal_one : IsLegal verdicts plan (past (entries ++ e ∷ [])) = legal_front verdicts plan (entries ++ e ∷ []) more legal_joined in
    let legal_start : IsLegal verdicts plan (past entries) = legal_front verdicts plan entries (e ∷ []) legal_one in
    subst (λ (es : History). slice_get (forecast verdicts plan (past es)) i ≡ Some row) joined
    (rows_stand verdicts plan (entries ++ e ∷ []) more i row legal_joined on_each.1
    (subst (λ (p : Past). slice_get (forecast verdicts plan p) (begins more + i) ≡ Some row) (sym (past_add entries e))
    (next_row verdicts plan e (past entries) (begins more + i) row (all_fit verdicts plan (past entries) legal_start) (fits verdicts plan (past entries) e.step (legal_last verdicts plan entries e legal_one)) on_each.0
    (place (is_some (begun_by e.step)) stood))))
  where
    place : (b : Bool) → slice_get (forecast verdicts plan (past entries)) (length (cond b (e ∷ filter (λ x. is_some (begun_by x.step)) more) (filter (λ x. is_some (begun_by x.step)) more)) + i) ≡ Some row
        → slice_get (forecast verdicts plan (past entries)) (cond b (suc (begins more + i)) (begins more + i)) ≡ Some row
    place true h = let next : suc (begins more) + i ≡ suc (begins more + i) = omega arith in rw next at h
    place false h = h

-- each row is of the request at its place
rows_named : (verdicts : Verdicts) (plan : PlanData) (controls : List Control) (grabs : Grabs) (values : Values) (qs : List QueuedData) → map (λ row. row.request.0) (forecasts verdicts plan controls values grabs qs) ≡ map (λ q. q.request.0) qs
unfolding forecasts
rows_named verdicts plan controls grabs values [] = refl
rows_named verdicts plan controls grabs values (q ∷ qs) = ap (λ (ids : List ℕ). q.request.0 ∷ ids) (rows_named verdicts plan controls grabs (overlay verdicts plan controls values grabs q.asked) qs)

frames_named : (plan : PlanData) (older : Past) (ids : List ℕ) → map (λ q. q.request.0) (map (queued_frame plan older) ids) ≡ ids
frames_named plan older [] = refl
frames_named plan older (j ∷ ids) = ap (λ (js : List ℕ). j ∷ js) (frames_named plan older ids)

-- a forecast has a row for each queued request
pub rows_queued : (verdicts : Verdicts) (plan : PlanData) (older : Past) → map (λ row. row.request.0) (forecast verdicts plan older) ≡ queue older
rows_queued verdicts plan older = rows_named verdicts plan (ranges_now plan older) (grabbed plan older) (now verdicts plan older) (queued_frames plan older) ∙ frames_named plan older (queue older)

-- the row of the frame that is begun next
pub begun_row : (verdicts : Verdicts) (plan : PlanData) (older : Past) (r : RequestId) (row : Forecast) → FitsFrames verdicts plan older (steps.Begin r) → slice_get (forecast verdicts plan older) 0 ≡ Some row
    → row ≡ forecast_over verdicts plan (ranges_now plan older) (now verdicts plan older) (grabbed plan older) (queued_frame plan older r.0)
begun_row verdicts plan older r row fit stood =
    let first = first_waits (queue older) r.0 fit.1.1 in
    same row _ (sym stood ∙ ap (λ (rows : List Forecast). slice_get rows 0) (first_row verdicts plan older r.0 first.0 first.1))
  where
    same : (a b : Forecast) → Some a ≡ Some b → a ≡ b
    same a b h = cc

-- nothing refuses a begin that may follow
begin_unrefused : (verdicts : Verdicts) (plan : PlanData) (older : Past) (r : RequestId) → MayFollow verdicts plan older (steps.Begin r) → fault_of (begin_frame_answer verdicts plan older) ≡ None
begin_unrefused verdicts plan older r may = by may.0 may.1 may.2
  where
    list : (o : Option RequestId) (fh : FhId) (pairs : List Pair) → Some (pairs_step o fh pairs) ≡ Some (steps.Begin r) → fault_of (begin_frame_answer verdicts plan older) ≡ None
    list None fh pairs adds = cc
    list (Some id) fh pairs adds = cc

    ends : (o : Option ℕ) → option_map (λ k. steps.Complete (record { 0 = k })) o ≡ Some (steps.Begin r) → fault_of (begin_frame_answer verdicts plan older) ≡ None
    ends None adds = cc
    ends (Some k) adds = cc

    subscribes : (fh : FhId) (flags : SubFlags) (o : Option ℕ) → option_map (λ c. steps.Subscribe fh c flags) o ≡ Some (steps.Begin r) → fault_of (begin_frame_answer verdicts plan older) ≡ None
    subscribes fh flags None adds = cc
    subscribes fh flags (Some c) adds = cc

    takes : (fh : FhId) (o : Option ℕ) → option_map (λ c. steps.Take fh c) o ≡ Some (steps.Begin r) → fault_of (begin_frame_answer verdicts plan older) ≡ None
    takes fh None adds = cc
    takes fh (Some c) adds = cc

    by : (ask : Ask) → refusal verdicts plan older ask ≡ None → step_of verdicts plan older ask ≡ Some (steps.Begin r) → fault_of (begin_frame_answer verdicts plan older) ≡ None
    by (asks.SetCtrls fh which id entries) h adds = list (meant (which_or (which_of which)) id) fh (list_pairs plan older fh which entries) adds
    by asks.Begin h adds = h
    by asks.Complete h adds = ends (running older) adds
    by (asks.Subscribe fh id flags) h adds = subscribes fh flags (shown plan older fh id) adds
    by (asks.Take fh) h adds = takes fh (first_control (pending verdicts plan older fh)) adds
    by _ h adds = cc

-- what a begin that may follow is answered
begin_replies : (verdicts : Verdicts) (plan : PlanData) (older : Past) (r : RequestId) → AllFit verdicts plan older → MayFollow verdicts plan older (steps.Begin r)
    → begin_frame_answer verdicts plan older ≡ Ok (replies.Frame r (unwrap_or (buffer older r.0) 0) (begun_refused verdicts plan older r.0))
begin_replies verdicts plan older r fit may =
    answered ∙ kept (is_full older) _ (sym (ap fault_of answered) ∙ begin_unrefused verdicts plan older r may)
  where
    kept : (full : Bool) (reply : Reply) → fault_of (unless_refused (cond full (Some HistoryFull) None) reply) ≡ None → unless_refused (cond full (Some HistoryFull) None) reply ≡ Ok reply
    kept true reply h = cc
    kept false reply h = refl

    fit_it : FitsFrames verdicts plan older (steps.Begin r)
    fit_it = fits verdicts plan older (steps.Begin r) may

    found : find (requests verdicts plan older) r.0 ≡ Some (request_in verdicts plan older r.0 states.Queued)
    found = find_request verdicts plan older r.0 fit ∙ request_some verdicts plan older r.0 states.Queued (first_queued older r.0 fit_it.1.1)

    first : next_frame (frames verdicts plan older) ≡ Ok (r.0, unwrap_or (buffer older r.0) 0)
    first =
        let front = first_waits (queue older) r.0 fit_it.1.1 in
        ap (λ (o : Option ℕ). next_frame (record (frames verdicts plan older) { running = o })) fit_it.1.0 ∙ ap (first_waiting (requests verdicts plan older)) front.1 ∙ ap (λ (o : Option RequestData). Ok (r.0, buffer_number o)) found

    answered : begin_frame_answer verdicts plan older ≡ stepped None older (replies.Frame r (unwrap_or (buffer older r.0) 0) (begun_refused verdicts plan older r.0))
    answered = ap (λ (found : Result (ℕ × ℕ) Check). stepped_with (frame_reply verdicts plan older) found older) first

-- The frame that is begun next is of the row that stood as many places down as frames were begun since.
module _ (verdicts : Verdicts) (plan : PlanData) (entries more : History) (e : Entry Step) (r : RequestId) (row : Forecast) (legal : IsLegal verdicts plan (past (entries ++ more ++ e ∷ []))) (on : all_go_on more ≡ true)
    (is : e.step ≡ steps.Begin r) (stood : slice_get (forecast verdicts plan (past entries)) (begins more) ≡ Some row) where
  may : MayFollow verdicts plan (past (entries ++ more)) (steps.Begin r)
  may = subst (MayFollow verdicts plan (past (entries ++ more))) is (legal_last verdicts plan (entries ++ more) e legal)

  legal_then : IsLegal verdicts plan (past (entries ++ more))
  legal_then = legal_front verdicts plan (entries ++ more) (e ∷ []) legal

  row_is : row ≡ forecast_over verdicts plan (ranges_now plan (past (entries ++ more))) (now verdicts plan (past (entries ++ more))) (grabbed plan (past (entries ++ more))) (queued_frame plan (past (entries ++ more)) r.0)
  row_is =
      let none : begins more ≡ begins more + 0 = omega arith in
      begun_row verdicts plan (past (entries ++ more)) r row (fits verdicts plan (past (entries ++ more)) (steps.Begin r) may) (rows_stand verdicts plan entries more 0 row legal_then on (rw none at stood))

  pub frame_request : r ≡ row.request
  frame_request = sym (ap (λ (f : Forecast). f.request) row_is)

  pub frame_values : now verdicts plan (past (entries ++ more ++ e ∷ [])) ≡ row.values
  frame_values = ap (now verdicts plan) (past_add (entries ++ more) e) ∙ begun_now verdicts plan e (past (entries ++ more)) r is ∙ sym (ap (λ (f : Forecast). f.values) row_is)

  pub frame_answered : (words : List ℕ) → answer_of verdicts plan (past (entries ++ more)) words asks.Begin ≡ Ok (replies.Frame row.request row.buffer row.refused)
  frame_answered words = begin_replies verdicts plan (past (entries ++ more)) r (all_fit verdicts plan (past (entries ++ more)) legal_then) may ∙ sym (ap (λ (f : Forecast). Ok (replies.Frame f.request f.buffer f.refused)) row_is)
