-- The frames that are queued, once a history goes on by one more step.
use Rattle.std.proofs.Common.{◌≡◌, ℕ, ◌∙◌, Bool, true, false, not, cond, inl, inr, List, [], ◌∷◌, ◌++◌, length, map, filter, drop, Option, None, Some, unwrap_or, nat_eq, refl, sym, ap}
use Rattle.std.specs.Option.{option_map}
use Rattle.std.proofs.lemmas.Bool.Decides.{eqb_tells}
use Rattle.std.proofs.lemmas.List.{map-append}
use Rattle.history.specs.declared.entry.Entry.{Entry}
use Rattle.history.specs.Past.{past}
use Rattle.history.proofs.Pasts.{past_add}
use Rattle.ctrl_types.specs.declared.ids.RequestId.{RequestId}
use Rattle.ctrl_calls.specs.Meanings.{Verdicts}
use Rattle.ctrl_handlers.specs.Plan.{PlanData}
use Rattle.ctrl_forecast.specs.Forecasts.{QueuedData}
use Rattle.req_book.specs.declared.state.RequestState.{RequestState}
use Rattle.req_book.proofs.ObjectLemmas.{Tells}
use Rattle.frame_queue.specs.Frames.{FramesData, is_in, is_queued}
use Rattle.frame_queue.proofs.FrameLemmas.{rests}
use Rattle.device_history.specs.declared.ask.Step.{Step}
use Rattle.device_history.specs.declared.ask.Step.TheVariants as steps
use Rattle.device_history.specs.Steps.{History, Past}
use Rattle.device_history.specs.Legal.{IsLegal, MayFollow}
use Rattle.device_history.specs.Requests.{is_there, state, asked, asked_after, buffer, buffer_after}
use Rattle.device_history.specs.Frames.{ever_queued, queue}
use Rattle.device_history.specs.Values.{now}
use Rattle.device_history.specs.Snapshots.{request, request_in, requests, frames, begun_pairs}
use Rattle.device_history.specs.FrameSteps.{FitsFrames, frames_after}
use Rattle.device_history.specs.Forecasts.{queued_frame, queued_frames, waiting_after}
use Rattle.device_history.proofs.AllFit.{AllFit}
use Rattle.device_history.proofs.FitLemmas.{fits, all_fit}
use Rattle.device_history.proofs.StateLemmas.{asked_more, asked_same, buffer_more}
use Rattle.device_history.proofs.FrameLemmas.{idle_rests, store_idle, buffer_idle, next_none, frames_more, first_waits, begin_is, complete_is}

-- a queued frame after one more step, each field by itself
abbrev frame_after : PlanData → Past → Step → ℕ → QueuedData
frame_after plan older step j = record {
  request = record { 0 = j };
  buffer = unwrap_or (buffer_after (length older) step j (buffer older j)) 0;
  asked = asked_after plan (length older) step j (asked plan older j);
}

frame_more : (plan : PlanData) (e : Entry Step) (older : Past) (j : ℕ) → queued_frame plan (e ∷ older) j ≡ frame_after plan older e.step j
frame_more plan e older j = rw (asked_more plan e older j, buffer_more e older j) refl

-- a request is queued where its state says so
queued_state : (verdicts : Verdicts) (plan : PlanData) (older : Past) (j : ℕ) → is_in is_queued (request verdicts plan older j) ≡ is_there is_queued (state older j)
unfolding request
queued_state verdicts plan older j = by (state older j)
  where
    by : (o : Option RequestState) → is_in is_queued (option_map (request_in verdicts plan older j) o) ≡ is_there is_queued o
    by None = refl
    by (Some s) = refl

-- a request that isn't queued is none that is
others : (verdicts : Verdicts) (plan : PlanData) (older : Past) (r j : ℕ) → is_in is_queued (request verdicts plan older r) ≡ false → is_there is_queued (state older j) ≡ true → nat_eq r j ≡ false
others verdicts plan older r j off waits = by (eqb_tells r j)
  where
    clash : true ≡ false → nat_eq r j ≡ false
    clash h = cc

    by : Tells r j → nat_eq r j ≡ false
    by (inr other) = other.0
    by (inl same) = clash (sym waits ∙ sym (queued_state verdicts plan older j) ∙ ap (λ (i : ℕ). is_in is_queued (request verdicts plan older i)) (sym same.1) ∙ off)

-- what a request asks for and its buffer stand while it is queued
frame_stands : (verdicts : Verdicts) (plan : PlanData) (older : Past) (step : Step) (j : ℕ) → AllFit verdicts plan older → FitsFrames verdicts plan older step → is_there is_queued (state older j) ≡ true
    → frame_after plan older step j ≡ queued_frame plan older j
frame_stands verdicts plan older steps.Alloc j fit fits waits =
    let other : nat_eq (length older) j ≡ false = others verdicts plan older (length older) j (ap (is_in is_queued) (next_none verdicts plan older fit)) waits in
    rw (other, asked_same plan older j) refl
frame_stands verdicts plan older (steps.Store r pairs) j fit fits waits =
    let other : nat_eq r.0 j ≡ false = others verdicts plan older r.0 j (idle_rests (request verdicts plan older r.0) (store_idle (request verdicts plan older r.0) fits.0)).0 waits in
    rw (other, asked_same plan older j) refl
frame_stands verdicts plan older (steps.Buffer r number) j fit fits waits =
    let other : nat_eq r.0 j ≡ false = others verdicts plan older r.0 j (idle_rests (request verdicts plan older r.0) (buffer_idle (requests verdicts plan older) number (request verdicts plan older r.0) fits.0)).0 waits in
    rw (other, asked_same plan older j) refl
frame_stands verdicts plan older (steps.Reinit r) j fit fits waits =
    let other : nat_eq r.0 j ≡ false = others verdicts plan older r.0 j (rests (request verdicts plan older r.0) fits.0).0 waits in
    rw (other, asked_same plan older j) refl
frame_stands verdicts plan older _ j fit fits waits = rw (asked_same plan older j) refl

-- numbers that pass a test, of which two functions make the same
same_frames : (f g : ℕ → QueuedData) (test : ℕ → Bool) (ids : List ℕ) → ((j : ℕ) → test j ≡ true → f j ≡ g j) → map f (filter test ids) ≡ map g (filter test ids)
same_frames f g test [] same = refl
same_frames f g test (j ∷ ids) same = by (test j) refl (same_frames f g test ids same)
  where
    by : (b : Bool) → test j ≡ b → map f (filter test ids) ≡ map g (filter test ids) → map f (cond b (j ∷ filter test ids) (filter test ids)) ≡ map g (cond b (j ∷ filter test ids) (filter test ids))
    by true is rest = rw (same j is, rest) refl
    by false is rest = rest

-- the frames that are queued stand as they did
frames_stand : (verdicts : Verdicts) (plan : PlanData) (e : Entry Step) (older : Past) → AllFit verdicts plan older → FitsFrames verdicts plan older e.step → map (queued_frame plan (e ∷ older)) (queue older) ≡ queued_frames plan older
frames_stand verdicts plan e older fit fits = same_frames (queued_frame plan (e ∷ older)) (queued_frame plan older) (λ j. is_there is_queued (state older j)) (ever_queued older) one
  where
    one : (j : ℕ) → is_there is_queued (state older j) ≡ true → queued_frame plan (e ∷ older) j ≡ queued_frame plan older j
    one j h = frame_more plan e older j ∙ frame_stands verdicts plan older e.step j fit fits h

-- without one request, the frames that pass a test
frames_but : (f g : ℕ → QueuedData) (test : ℕ → Bool) (r : ℕ) (ids : List ℕ) → ((j : ℕ) → test j ≡ true → f j ≡ g j) → ((j : ℕ) → (g j).request.0 ≡ j)
    → map f (filter (λ j. not (nat_eq r j)) (filter test ids)) ≡ filter (λ q. not (nat_eq r q.request.0)) (map g (filter test ids))
frames_but f g test r [] same named = refl
frames_but f g test r (j ∷ ids) same named = by (test j) refl (not (nat_eq r j)) refl (frames_but f g test r ids same named)
  where
    own : (b : Bool) → not (nat_eq r j) ≡ b → not (nat_eq r (g j).request.0) ≡ b
    own b is = ap (λ (n : ℕ). not (nat_eq r n)) (named j) ∙ is

    by : (b : Bool) → test j ≡ b → (other : Bool) → not (nat_eq r j) ≡ other
        → map f (filter (λ j. not (nat_eq r j)) (filter test ids)) ≡ filter (λ q. not (nat_eq r q.request.0)) (map g (filter test ids))
        → map f (filter (λ j. not (nat_eq r j)) (cond b (j ∷ filter test ids) (filter test ids))) ≡ filter (λ q. not (nat_eq r q.request.0)) (map g (cond b (j ∷ filter test ids) (filter test ids)))
    by true is true other rest = rw (other, own true other, same j is, rest) refl
    by true is false other rest = rw (other, own false other, rest) refl
    by false is other apart rest = rest

-- the frames that are queued after one more step
pub frames_waiting : (verdicts : Verdicts) (plan : PlanData) (e : Entry Step) (older : Past) → AllFit verdicts plan older → FitsFrames verdicts plan older e.step
    → queued_frames plan (e ∷ older) ≡ waiting_after plan older e.step (queued_frames plan older)
frames_waiting verdicts plan e older fit fits = by e.step refl fits
  where
    turn : (step : Step) → e.step ≡ step → queue (e ∷ older) ≡ (frames_after verdicts plan older (length older) step (frames verdicts plan older)).queue
    turn step is = ap (λ (f : FramesData). f.queue) (frames_more verdicts plan e older fit fits) ∙ ap (λ (s : Step). (frames_after verdicts plan older (length older) s (frames verdicts plan older)).queue) is

    stand : map (queued_frame plan (e ∷ older)) (queue older) ≡ queued_frames plan older
    stand = frames_stand verdicts plan e older fit fits

    same : (step : Step) → e.step ≡ step → (frames_after verdicts plan older (length older) step (frames verdicts plan older)).queue ≡ queue older → queued_frames plan (e ∷ older) ≡ queued_frames plan older
    same step is line = ap (map (queued_frame plan (e ∷ older))) (turn step is ∙ line) ∙ stand

    queued : (r : RequestId) → e.step ≡ steps.Queue r → queued_frames plan (e ∷ older) ≡ queued_frames plan older ++ queued_frame plan older r.0 ∷ []
    queued r is =
        let own : queued_frame plan (e ∷ older) r.0 ≡ queued_frame plan older r.0 = frame_more plan e older r.0 ∙ ap (λ (s : Step). frame_after plan older s r.0) is ∙ rw (asked_same plan older r.0) refl in
        ap (map (queued_frame plan (e ∷ older))) (turn (steps.Queue r) is) ∙ map-append (queued_frame plan (e ∷ older)) (queue older) (r.0 ∷ [])
        ∙ ap (λ (qs : List QueuedData). qs ++ queued_frame plan (e ∷ older) r.0 ∷ []) stand ∙ ap (λ (q : QueuedData). queued_frames plan older ++ q ∷ []) own

    begun : (r : RequestId) → e.step ≡ steps.Begin r → FitsFrames verdicts plan older (steps.Begin r) → queued_frames plan (e ∷ older) ≡ drop 1 (queued_frames plan older)
    begun r is fits_it =
        let first = first_waits (queue older) r.0 fits_it.1.1 in
        ap (map (queued_frame plan (e ∷ older))) (turn (steps.Begin r) is ∙ ap (λ (f : FramesData). f.queue) (begin_is (frames verdicts plan older) (begun_pairs verdicts plan older r.0) r.0 first.0 fits_it.1.0 first.1))
        ∙ ap (λ (ids : List ℕ). drop 1 (map (queued_frame plan (e ∷ older)) ids)) (sym first.1) ∙ ap (drop 1) stand

    taken : (r : RequestId) → e.step ≡ steps.Cancel r → queued_frames plan (e ∷ older) ≡ filter (λ q. not (nat_eq r.0 q.request.0)) (queued_frames plan older)
    taken r is =
        ap (map (queued_frame plan (e ∷ older))) (turn (steps.Cancel r) is)
        ∙ frames_but (queued_frame plan (e ∷ older)) (queued_frame plan older) (λ j. is_there is_queued (state older j)) r.0 (ever_queued older) (λ j h. frame_more plan e older j ∙ frame_stands verdicts plan older e.step j fit fits h) (λ j. refl)

    by : (step : Step) → e.step ≡ step → FitsFrames verdicts plan older step → queued_frames plan (e ∷ older) ≡ waiting_after plan older step (queued_frames plan older)
    by (steps.Queue r) is fits_it = queued r is
    by (steps.Begin r) is fits_it = begun r is fits_it
    by (steps.Complete r) is fits_it = same _ is (ap (λ (f : FramesData). f.queue) (complete_is (frames verdicts plan older) (now verdicts plan older) r.0 fits_it.1))
    by (steps.Cancel r) is fits_it = taken r is
    by steps.StreamOff is fits_it = ap (map (queued_frame plan (e ∷ older))) (turn steps.StreamOff is)
    by _ is fits_it = same _ is refl

-- the same, of a list of entries
pub waiting_add : (verdicts : Verdicts) (plan : PlanData) (entries : History) (e : Entry Step) → IsLegal verdicts plan (past entries) → MayFollow verdicts plan (past entries) e.step
    → queued_frames plan (past (entries ++ e ∷ [])) ≡ waiting_after plan (past entries) e.step (queued_frames plan (past entries))
waiting_add verdicts plan entries e legal may =
    ap (queued_frames plan) (past_add entries e) ∙ frames_waiting verdicts plan e (past entries) (all_fit verdicts plan (past entries) legal) (fits verdicts plan (past entries) e.step may)
