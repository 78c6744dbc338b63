-- What may follow a history fits the requests and the queue.
use Rattle.std.proofs.Common.{◌≡◌, ℕ, Bool, true, false, not, cond, List, [], ◌∷◌, ◌++◌, Option, None, Some, refl, ap, sym, subst, ◌∙◌}
use Rattle.std.specs.Option.{option_map, is_none}
use Rattle.std.specs.Result.{is_ok}
use Rattle.ctrl_types.specs.Classes.{which_of}
use Rattle.ctrl_types.specs.declared.check.Check.{Check}
use Rattle.ctrl_types.specs.declared.check.Check.TheVariants.{DefaultsWritten, ListHandleNotOpen, ListRequestNotIdle, ListHistoryFull, NotIdle, WhichUnknown}
use Rattle.ctrl_types.specs.declared.errno.Fault.{Fault}
use Rattle.ctrl_types.specs.declared.ids.ExtControl.{ExtControl}
use Rattle.ctrl_types.specs.declared.ids.FhId.{FhId}
use Rattle.ctrl_types.specs.declared.ids.Pair.{Pair}
use Rattle.ctrl_types.specs.declared.ids.RequestId.{RequestId}
use Rattle.ctrl_types.specs.declared.sub_flags.SubFlags.{SubFlags}
use Rattle.ctrl_types.specs.declared.which.Which.{Which}
use Rattle.ctrl_types.specs.declared.which.Which.TheVariants.{Current, Defaults, Class, Request}
use Rattle.ctrl_calls.specs.Meanings.{Verdicts}
use Rattle.ctrl_handlers.specs.Plan.{PlanData}
use Rattle.req_book.specs.Requests.{RequestData, is_idle}
use Rattle.req_book.specs.Refusals.{store_check}
use Rattle.frame_queue.specs.Frames.{next_frame}
use Rattle.ctrl_types.specs.declared.refusal.Refusal.{Refusal}
use Rattle.ctrl_lists.specs.Answers.{answered}
use Rattle.ctrl_lists.specs.Checks.{first_refusal, refused_if, write_checks}
use Rattle.device_history.specs.declared.ask.Ask.{Ask}
use Rattle.device_history.specs.declared.ask.Ask.TheVariants as asks
use Rattle.device_history.specs.declared.ask.Reply.{Reply}
use Rattle.device_history.specs.declared.ask.Step.{Step}
use Rattle.device_history.specs.declared.ask.Step.TheVariants as steps
use Rattle.device_history.specs.Steps.{Past}
use Rattle.device_history.specs.Refusals.{fault_of, is_full, stepped, stepped_with}
use Rattle.device_history.specs.Handles.{handler_of, shown}
use Rattle.device_history.specs.Events.{pending}
use Rattle.device_history.specs.EventAnswers.{first_control}
use Rattle.device_history.specs.Frames.{queue, running, first_of}
use Rattle.device_history.specs.Snapshots.{frames, request}
use Rattle.device_history.specs.RequestAnswers.{begin_frame_answer, frame_reply}
use Rattle.device_history.specs.Lists.{controls_of, meant, opening_checks, meant_check, refused_by, request_check, which_or, writes_defaults, write_view, list_pairs, pairs_step}
use Rattle.device_history.specs.Answers.{refusal, step_of}
use Rattle.device_history.specs.Legal.{MayFollow, IsLegal}
use Rattle.device_history.specs.FrameSteps.{FitsFrames}
use Rattle.device_history.proofs.ListLemmas.{none_of_both, passes}
use Rattle.device_history.proofs.AllFit.{AllFit}

-- where nothing refuses an ask that adds a step, its own refusal is none
unrefused_step : (o : Option Check) (past : Past) (reply : Reply) → fault_of (stepped o past reply) ≡ None → o ≡ None
unrefused_step None past reply h = refl
unrefused_step (Some check) past reply h = cc

pub same_step : (a b : Step) → Some a ≡ Some b → a ≡ b
same_step a b h = cc

same_number : (a b : ℕ) → Some a ≡ Some b → a ≡ b
same_number a b h = cc

-- a list that is set passes its first checks
list_opens : (fault : Refusal → Fault) (checks behind : List (Option Refusal)) (entries : List ExtControl) → fault_of (controls_of (answered fault (first_refusal (checks ++ behind)) entries)) ≡ None → first_refusal checks ≡ None
list_opens fault checks behind entries h = (none_of_both checks behind (none (first_refusal (checks ++ behind)) h)).0
  where
    none : (first : Option Refusal) → fault_of (controls_of (answered fault first entries)) ≡ None → first ≡ None
    none None h = refl
    none (Some refusal) h = cc

unrefused_by : (o : Option Check) → refused_by o ≡ None → o ≡ None
unrefused_by None h = refl
unrefused_by (Some check) h = cc

-- a list that passes its first checks isn't refused by the request that it speaks of
pub meant_passes : (verdicts : Verdicts) (plan : PlanData) (older : Past) (fh : FhId) (which : ℕ) (id : Option RequestId) (writes : Bool) → first_refusal (opening_checks verdicts plan older fh which id writes) ≡ None
    → meant_check verdicts plan older writes (which_or (which_of which)) id ≡ None
meant_passes verdicts plan older fh which id writes h =
    let last : Option Refusal = refused_by (meant_check verdicts plan older writes (which_or (which_of which)) id) in
    let defaults : Option Refusal = refused_if (writes_defaults writes (which_or (which_of which))) DefaultsWritten in
    let unread : Option Refusal = refused_if (not (is_ok (which_of which))) WhichUnknown in
    let first = passes (refused_if (is_none (handler_of older fh)) ListHandleNotOpen) (unread ∷ defaults ∷ last ∷ []) h in
    let second = passes unread (defaults ∷ last ∷ []) first.1 in
    let third = passes defaults (last ∷ []) second.1 in
    unrefused_by (meant_check verdicts plan older writes (which_or (which_of which)) id) (passes last [] third.1).0

-- a request that doesn't refuse a list that writes takes its pairs
stores : (o : Option RequestData) → request_check true o ≡ None → store_check o ≡ None
stores None h = cc
stores (Some r) h = by (is_idle r.state) h
  where
    by : (b : Bool) → cond b None (Some ListRequestNotIdle) ≡ None → cond b None (Some NotIdle) ≡ None
    by true k = refl
    by false k = cc

-- a list that is set fits
fits_list : (verdicts : Verdicts) (plan : PlanData) (older : Past) (fh : FhId) (which : Which) (id : Option RequestId) (pairs : List Pair) → meant_check verdicts plan older true which id ≡ None
    → FitsFrames verdicts plan older (pairs_step (meant which id) fh pairs)
fits_list verdicts plan older fh Request (Some r) pairs h = (stores (request verdicts plan older r.0) h, tt)
fits_list verdicts plan older fh Request None pairs h = (refl, tt)
fits_list verdicts plan older fh Current id pairs h = (refl, tt)
fits_list verdicts plan older fh Defaults id pairs h = (refl, tt)
fits_list verdicts plan older fh (Class n) id pairs h = (refl, tt)

-- a frame that is begun fits
fits_begin : (verdicts : Verdicts) (plan : PlanData) (older : Past) (step : Step) → fault_of (begin_frame_answer verdicts plan older) ≡ None
    → option_map (λ r. steps.Begin (record { 0 = r })) (first_of (queue older)) ≡ Some step → FitsFrames verdicts plan older step
fits_begin verdicts plan older step unrefused adds = by (running older) (queue older) refl refl unrefused
  where
    by : (runs : Option ℕ) (waits : List ℕ) → running older ≡ runs → queue older ≡ waits → fault_of (stepped_with (frame_reply verdicts plan older) (next_frame (record (frames verdicts plan older) { queue = waits; running = runs })) older) ≡ None
        → FitsFrames verdicts plan older step
    by (Some r) waits is_running is_queue h = cc
    by None [] is_running is_queue h = cc
    by None (r ∷ rest) is_running is_queue h =
        subst (FitsFrames verdicts plan older) (same_step (steps.Begin (record { 0 = r })) step (sym (ap (λ (ids : List ℕ). option_map (λ i. steps.Begin (record { 0 = i })) (first_of ids)) is_queue) ∙ adds))
        (refl, (is_running, ap first_of is_queue))

-- a frame that is ended fits
fits_complete : (verdicts : Verdicts) (plan : PlanData) (older : Past) (step : Step) → option_map (λ r. steps.Complete (record { 0 = r })) (running older) ≡ Some step → FitsFrames verdicts plan older step
fits_complete verdicts plan older step adds = by (running older) refl
  where
    by : (runs : Option ℕ) → running older ≡ runs → FitsFrames verdicts plan older step
    by None is = absurd (none (sym (ap (option_map (λ r. steps.Complete (record { 0 = r }))) is) ∙ adds))
      where
        none : None ≡ Some step → ⊥
        none h = cc
    by (Some r) is =
        subst (FitsFrames verdicts plan older) (same_step (steps.Complete (record { 0 = r })) step (sym (ap (option_map (λ i. steps.Complete (record { 0 = i }))) is) ∙ adds)) (refl, is)

nothing : (verdicts : Verdicts) (plan : PlanData) (older : Past) (step : Step) → None ≡ Some step → FitsFrames verdicts plan older step
nothing verdicts plan older step h = cc

-- a step that may follow fits
pub fits : (verdicts : Verdicts) (plan : PlanData) (older : Past) (step : Step) → MayFollow verdicts plan older step → FitsFrames verdicts plan older step
fits verdicts plan older step may = by may.0 may.1 may.2
  where
    is : (own : Step) → FitsFrames verdicts plan older own → Some own ≡ Some step → FitsFrames verdicts plan older step
    is own fit adds = subst (FitsFrames verdicts plan older) (same_step own step adds) fit

    subscribes : (f : FhId) (flags : SubFlags) (o : Option ℕ) → option_map (λ c. steps.Subscribe f c flags) o ≡ Some step → FitsFrames verdicts plan older step
    subscribes f flags None adds = nothing verdicts plan older step adds
    subscribes f flags (Some c) adds = is (steps.Subscribe f c flags) (refl, tt) adds

    takes : (f : FhId) (o : Option ℕ) → option_map (λ c. steps.Take f c) o ≡ Some step → FitsFrames verdicts plan older step
    takes f None adds = nothing verdicts plan older step adds
    takes f (Some c) adds = is (steps.Take f c) (refl, tt) adds

    by : (ask : Ask) → refusal verdicts plan older ask ≡ None → step_of verdicts plan older ask ≡ Some step → FitsFrames verdicts plan older step
    by (asks.OpenFh handler) h adds = is (steps.OpenFh handler) (refl, tt) adds
    by (asks.CloseFh fh) h adds = is (steps.CloseFh fh) (refl, tt) adds
    by (asks.SetCtrls fh which id list) h adds =
        is (pairs_step (meant (which_or (which_of which)) id) fh (list_pairs plan older fh which list))
        (fits_list verdicts plan older fh (which_or (which_of which)) id (list_pairs plan older fh which list)
        (meant_passes verdicts plan older fh which id true
        (list_opens _ (opening_checks verdicts plan older fh which id true) (write_checks verdicts plan (write_view verdicts plan older fh which id) true list ++ refused_if (is_full older) ListHistoryFull ∷ []) _ h)))
        adds
    by (asks.Grab c on) h adds = is (steps.Grab c on) (refl, tt) adds
    by (asks.ModifyRange c low high apart default_value) h adds = is (steps.ModifyRange c low high apart default_value) (refl, tt) adds
    by asks.Alloc h adds = is steps.Alloc (unrefused_step _ older _ h, tt) adds
    by (asks.AddBuffer r number) h adds = is (steps.Buffer r number) (unrefused_step _ older _ h, tt) adds
    by (asks.Queue r) h adds = is (steps.Queue r) (unrefused_step _ older _ h, tt) adds
    by asks.Begin h adds = fits_begin verdicts plan older step h adds
    by asks.Complete h adds = fits_complete verdicts plan older step adds
    by (asks.Cancel r) h adds = is (steps.Cancel r) (unrefused_step _ older _ h, tt) adds
    by asks.StreamOff h adds = is steps.StreamOff (refl, tt) adds
    by (asks.Reinit r) h adds = is (steps.Reinit r) (unrefused_step _ older _ h, tt) adds
    by (asks.Free r) h adds = is (steps.Free r) (unrefused_step _ older _ h, tt) adds
    by (asks.Subscribe fh id flags) h adds = subscribes fh flags (shown plan older fh id) adds
    by (asks.Unsubscribe fh id) h adds = is (steps.Unsubscribe fh (shown plan older fh id)) (refl, tt) adds
    by (asks.Take fh) h adds = takes fh (first_control (pending verdicts plan older fh)) adds
    by _ h adds = nothing verdicts plan older step adds

-- so does each step of a legal history
pub all_fit : (verdicts : Verdicts) (plan : PlanData) (past : Past) → IsLegal verdicts plan past → AllFit verdicts plan past
unfolding IsLegal AllFit
all_fit verdicts plan [] legal = tt
all_fit verdicts plan (e ∷ older) legal = (all_fit verdicts plan older legal.0, fits verdicts plan older e.step legal.1)
