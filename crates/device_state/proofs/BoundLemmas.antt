-- How many validators a list may have asked.
use Rattle.std.proofs.Common.{◌≡◌, ◌∙◌, ◌≤◌, ◌+◌, ◌++◌, ℕ, Bool, true, not, List, [], ◌∷◌, length, Option, None, Some, Ok, refl, sym, ap, subst, arith}
use Rattle.std.specs.Option.{is_none}
use Rattle.std.specs.Result.{is_ok}
use Rattle.ctrl_types.specs.Classes.{which_of}
use Rattle.ctrl_types.specs.declared.check.Check.TheVariants.{DefaultsWritten, ListHandleNotOpen, ListRequestMissing, ListHistoryFull, WhichUnknown}
use Rattle.ctrl_types.specs.declared.ids.ExtControl.{ExtControl}
use Rattle.ctrl_types.specs.declared.ids.FhId.{FhId}
use Rattle.ctrl_types.specs.declared.ids.RequestId.{RequestId}
use Rattle.ctrl_types.specs.declared.which.Which.{Which}
use Rattle.ctrl_types.specs.declared.which.Which.TheVariants.{Class, Current, Defaults, Request}
use Rattle.ctrl_calls.specs.Meanings.{Verdicts}
use Rattle.ctrl_handlers.specs.Plan.{PlanData}
use Rattle.ctrl_forecast.specs.Forecasts.{named_by_frames}
use Rattle.ctrl_types.specs.declared.refusal.Refusal.{Refusal}
use Rattle.ctrl_lists.specs.Answers.{answered, entries_judged}
use Rattle.ctrl_types.specs.Refusals.{fault_at_count}
use Rattle.ctrl_lists.specs.Checks.{at_first, entry_checks, first_refusal, judging_check, pairs_judged, refused_if, write_checks}
use Rattle.ctrl_lists.specs.Touched.{list_asks, none_where, touched}
use Rattle.ctrl_lists.specs.View.{ViewData, pairs_of}
use Rattle.device_history.specs.declared.ask.Reply.TheVariants.{Controls}
use Rattle.device_history.specs.Forecasts.{queued_frames}
use Rattle.device_history.specs.Handles.{handler_of}
use Rattle.device_history.specs.Lists.{checks_before_judging, controls_of, list_pairs, meant, meant_check, opening_checks, refused_by, set_checks, set_list_answer, which_or, write_view, writes_defaults}
use Rattle.device_history.specs.Refusals.{is_full}
use Rattle.device_history.specs.Steps.{Past}
use Rattle.device_history.proofs.ListLemmas.{first_behind, none_of_both}
use Rattle.device_state.specs.Device.{forecast_asks, list_most, list_touches}

-- a bound that is larger where nothing refuses is larger
most_more : (o : Option Refusal) (n m : ℕ) → none_where o n ≤ none_where o (n + m)
most_more None n m = omega arith
most_more (Some refusal) n m = omega arith

-- a set may ask for what its list touches, however many frames are queued
pub set_at_least : (verdicts : Verdicts) (plan : PlanData) (older : Past) (fh : FhId) (which : ℕ) (request : Option RequestId) (list : List ExtControl)
    → list_most verdicts plan older fh which request true list (list_touches plan older fh which list)
    ≤ list_most verdicts plan older fh which request true list (list_touches plan older fh which list + forecast_asks plan older (which_or (which_of which)) (touched plan (list_pairs plan older fh which list)))
set_at_least verdicts plan older fh which request list =
    most_more (first_refusal (checks_before_judging verdicts plan older fh which request true list)) (list_touches plan older fh which list) (forecast_asks plan older (which_or (which_of which)) (touched plan (list_pairs plan older fh which list)))

-- a list that is set passed the checks that every list begins with, and those before judging
pub set_opened : (verdicts : Verdicts) (plan : PlanData) (older : Past) (fh : FhId) (which : ℕ) (request : Option RequestId) (list : List ExtControl) (answers : List ExtControl)
    → set_list_answer verdicts plan older fh which request list ≡ Ok (Controls answers)
    → (first_refusal (opening_checks verdicts plan older fh which request true) ≡ None) × (first_refusal (checks_before_judging verdicts plan older fh which request true list) ≡ None)
set_opened verdicts plan older fh which request list answers is =
    let all = none_of_both opening (write_checks verdicts plan view true list ++ refused_if (is_full older) ListHistoryFull ∷ []) (passed (first_refusal (set_checks verdicts plan older fh which request list)) is) in
    let own = none_of_both (write_checks verdicts plan view true list) (refused_if (is_full older) ListHistoryFull ∷ []) all.1 in
    (all.0, first_behind opening (entry_checks plan view true list) all.0 ∙ (none_of_both (entry_checks plan view true list) (at_first (judging_check verdicts plan view (pairs_judged plan view list)) (pairs_of plan view.handler view.which list) ∷ []) own.0).0)
  where
    view : ViewData
    view = write_view verdicts plan older fh which request

    opening : List (Option Refusal)
    opening = opening_checks verdicts plan older fh which request true

    passed : (o : Option Refusal) → controls_of (answered (fault_at_count (length list)) o (entries_judged verdicts plan view list)) ≡ Ok (Controls answers) → o ≡ None
    passed None h = refl
    passed (Some refusal) h = cc

-- so one that speaks of a request names it
names_request : (verdicts : Verdicts) (plan : PlanData) (older : Past) (fh : FhId) (which : ℕ) (request : Option RequestId) → first_refusal (opening_checks verdicts plan older fh which request true) ≡ None
    → which_or (which_of which) ≡ Request → request ≡ None → ⊥
names_request verdicts plan older fh which request opens through none = last (sym speaks ∙ (none_of_both (closed ∷ unread ∷ defaults ∷ []) (spoken ∷ []) opens).1)
  where
    closed : Option Refusal
    closed = refused_if (is_none (handler_of older fh)) ListHandleNotOpen

    unread : Option Refusal
    unread = refused_if (not (is_ok (which_of which))) WhichUnknown

    defaults : Option Refusal
    defaults = refused_if (writes_defaults true (which_or (which_of which))) DefaultsWritten

    spoken : Option Refusal
    spoken = refused_by (meant_check verdicts plan older true (which_or (which_of which)) request)

    nameless : Refusal
    nameless = record { check = ListRequestMissing; entry = None }

    speaks : first_refusal (spoken ∷ []) ≡ Some nameless
    speaks =
        ap (λ (w : Which). first_refusal (refused_by (meant_check verdicts plan older true w request) ∷ [])) through
        ∙ ap (λ (r : Option RequestId). first_refusal (refused_by (meant_check verdicts plan older true Request r) ∷ [])) none

    last : Some nameless ≡ None → ⊥
    last h = cc

-- the forecasts are renewed where a list speaks of no request
pub forecasts_asked : (verdicts : Verdicts) (plan : PlanData) (older : Past) (fh : FhId) (which : ℕ) (request : Option RequestId) (clusters : List ℕ) → first_refusal (opening_checks verdicts plan older fh which request true) ≡ None
    → meant (which_or (which_of which)) request ≡ None → forecast_asks plan older (which_or (which_of which)) clusters ≡ named_by_frames plan (queued_frames plan older) clusters
forecasts_asked verdicts plan older fh which request clusters opens current = by (which_or (which_of which)) refl
  where
    by : (w : Which) → which_or (which_of which) ≡ w → forecast_asks plan older w clusters ≡ named_by_frames plan (queued_frames plan older) clusters
    by Current is = refl
    by (Class n) is = refl
    by Defaults is = refl
    by Request is = absurd (names_request verdicts plan older fh which request opens is (sym (ap (λ (w : Which). meant w request) is) ∙ current))

-- a list that was read asks no oftener than one that the device is asked
pub read_bound : (verdicts : Verdicts) (plan : PlanData) (older : Past) (fh : FhId) (which : ℕ) (request : Option RequestId) (is_set : Bool) (list : List ExtControl) (view : ViewData) (asked before : ℕ)
    → first_refusal (opening_checks verdicts plan older fh which request true) ≡ None → view ≡ write_view verdicts plan older fh which request
    → asked ≤ before + list_asks plan view is_set list → asked ≤ before + list_most verdicts plan older fh which request is_set list (list_touches plan older fh which list)
read_bound verdicts plan older fh which request is_set list view asked before opens read most =
    subst (λ (o : Option Refusal). asked ≤ before + none_where o (list_touches plan older fh which list)) (sym (first_behind (opening_checks verdicts plan older fh which request true) (entry_checks plan (write_view verdicts plan older fh which request) is_set list) opens))
    (subst (λ (v : ViewData). asked ≤ before + list_asks plan v is_set list) read most)
