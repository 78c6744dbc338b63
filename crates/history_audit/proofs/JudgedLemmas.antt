-- What the judgement of a list says of a set and of a store.
use Rattle.std.proofs.Common.{◌≡◌, ℕ, ◌↔◌, true, false, List, [], Option, None, Some, is_some, Result, Ok, Err, IfOk, IsTrue, MatchOption, refl, ap, sym, ◌∙◌, subst}
use Rattle.std.specs.Option.{option_map}
use Rattle.ctrl_types.specs.declared.check.Check.{Check}
use Rattle.ctrl_types.specs.declared.ids.ExtControl.{ExtControl}
use Rattle.ctrl_types.specs.declared.ids.FhId.{FhId}
use Rattle.ctrl_types.specs.declared.ids.Pair.{Pair}
use Rattle.ctrl_types.specs.declared.ids.RequestId.{RequestId}
use Rattle.ctrl_types.specs.declared.which.Which.{Which}
use Rattle.ctrl_types.specs.declared.which.Which.TheVariants.{Current, Request}
use Rattle.ctrl_calls.specs.Meanings.{Verdicts}
use Rattle.ctrl_settle.specs.Control.{Control}
use Rattle.ctrl_handlers.specs.Plan.{PlanData}
use Rattle.ctrl_clusters.specs.Rows.{Grabs, Values}
use Rattle.req_book.specs.Refusals.{store_check}
use Rattle.ctrl_lists.specs.Answers.{entries_judged}
use Rattle.ctrl_lists.specs.Checks.{first_refusal, write_checks}
use Rattle.ctrl_lists.specs.Touched.{IsTouched, TouchedData}
use Rattle.ctrl_lists.specs.Lists.{ListData}
use Rattle.ctrl_lists.specs.View.{ViewData}
use Rattle.device_history.specs.declared.ask.Step.TheVariants as steps
use Rattle.device_history.specs.Ranges.{ranges_now}
use Rattle.device_history.specs.Steps.{Past}
use Rattle.device_history.specs.Refusals.{is_full}
use Rattle.device_history.specs.Handles.{handler_of, opened}
use Rattle.device_history.specs.Grabs.{grabbed}
use Rattle.device_history.specs.Values.{now}
use Rattle.device_history.specs.Snapshots.{request}
use Rattle.device_history.specs.Requests.{asked}
use Rattle.device_history.specs.Lists.{handler_or, write_view}
use Rattle.device_history.specs.Asking.{entries_of, first_storer}
use Rattle.device_history.specs.Legal.{MayFollow}
use Rattle.history_audit.specs.Judged.{IsSet, IsUnset, view_of}
use Rattle.history_audit.proofs.PairLemmas.{set_follows, set_needs, store_follows, store_needs}

-- what a list was judged to be
abbrev pub Judged : Verdicts → PlanData → ViewData → List Pair → Option TouchedData → Type 0
Judged verdicts plan view pairs touched = MatchOption touched (IsUnset verdicts plan view pairs) (λ touch. IsSet verdicts plan view pairs touch)

-- the present values, seen through an open file handle
set_view : (verdicts : Verdicts) (plan : PlanData) (past : Past) (fh : FhId) (handler : ℕ) → handler_of past fh ≡ Some handler → view_of verdicts plan past handler Current [] ≡ write_view verdicts plan past fh 0 None
set_view verdicts plan past fh handler is = ap (λ (o : Option ℕ). view_of verdicts plan past (handler_or o) Current []) (sym is)

-- a set through an open file handle may follow exactly where its list can be set
pub set_judged : {E : Type 0} (verdicts : Verdicts) (plan : PlanData) (past : Past) (fh : FhId) (handler : ℕ) (pairs : List Pair) (judged : Result (Option TouchedData) E) → handler_of past fh ≡ Some handler → is_full past ≡ false
    → IfOk judged (λ touched. Judged verdicts plan (view_of verdicts plan past handler Current []) pairs touched)
    → IfOk judged (λ touched. MatchOption touched (MayFollow verdicts plan past (steps.Set fh pairs) → ⊥) (λ touch.
    (is_full past ≡ false) × MayFollow verdicts plan past (steps.Set fh pairs) × IsSet verdicts plan (write_view verdicts plan past fh 0 None) pairs touch))
set_judged verdicts plan past fh handler pairs (Err e) is room h = tt
set_judged verdicts plan past fh handler pairs (Ok None) is room h = λ may.
    (set_needs verdicts plan past fh pairs may).2 (subst (λ (v : ViewData). IsUnset verdicts plan v pairs) (set_view verdicts plan past fh handler is) h)
set_judged verdicts plan past fh handler pairs (Ok (Some touch)) is room h =
    let sets = subst (λ (v : ViewData). IsSet verdicts plan v pairs touch) (set_view verdicts plan past fh handler is) h in
    (room, set_follows verdicts plan past fh handler pairs touch is room sets, sets)

-- a set may not follow where no further step is kept, and where its file handle isn't open
pub set_full : (verdicts : Verdicts) (plan : PlanData) (past : Past) (fh : FhId) (pairs : List Pair) → is_full past ≡ true → MayFollow verdicts plan past (steps.Set fh pairs) → ⊥
set_full verdicts plan past fh pairs full may =
    let room = (set_needs verdicts plan past fh pairs may).1 in cc

pub set_closed : (verdicts : Verdicts) (plan : PlanData) (past : Past) (fh : FhId) (pairs : List Pair) → handler_of past fh ≡ None → MayFollow verdicts plan past (steps.Set fh pairs) → ⊥
set_closed verdicts plan past fh pairs none may = (set_needs verdicts plan past fh pairs may).0 none

-- nor may a store where no further step is kept, and where its request refuses pairs
pub store_full : (verdicts : Verdicts) (plan : PlanData) (past : Past) (r : RequestId) (pairs : List Pair) → is_full past ≡ true → MayFollow verdicts plan past (steps.Store r pairs) → ⊥
store_full verdicts plan past r pairs full may =
    let room = (store_needs verdicts plan past r pairs may).0 in cc

pub store_refused : (verdicts : Verdicts) (plan : PlanData) (past : Past) (r : RequestId) (pairs : List Pair) → is_some (store_check (request verdicts plan past r.0)) ≡ true → MayFollow verdicts plan past (steps.Store r pairs) → ⊥
store_refused verdicts plan past r pairs refused may =
    let idle : is_some (store_check (request verdicts plan past r.0)) ≡ false = ap (λ (o : Option Check). is_some o) (store_needs verdicts plan past r pairs may).1 in cc

-- nor where no open file handle's handler shows its pairs
pub store_unshown : (verdicts : Verdicts) (plan : PlanData) (past : Past) (r : RequestId) (pairs : List Pair) → None ≡ option_map (λ h. h.1) (first_storer plan pairs (opened past)) → MayFollow verdicts plan past (steps.Store r pairs) → ⊥
store_unshown verdicts plan past r pairs none may = (store_needs verdicts plan past r pairs may).2 (by (first_storer plan pairs (opened past)) none)
  where
    by : (o : Option (ℕ × ℕ)) → None ≡ option_map (λ h. h.1) o → o ≡ None
    by None h = refl
    by (Some k) h = cc

-- a store through the first file handle whose handler shows its pairs may follow exactly where its list can be set
pub store_judged : (verdicts : Verdicts) (plan : PlanData) (past : Past) (r : RequestId) (handler : ℕ) (pairs : List Pair) (touched : Option TouchedData)
    → Some handler ≡ option_map (λ h. h.1) (first_storer plan pairs (opened past)) → is_full past ≡ false
    → store_check (request verdicts plan past r.0) ≡ None → Judged verdicts plan (view_of verdicts plan past handler Request (asked plan past r.0)) pairs touched → IsTrue (is_some touched) ↔ MayFollow verdicts plan past (steps.Store r pairs)
store_judged verdicts plan past r handler pairs touched is room idle judged = by (first_storer plan pairs (opened past)) refl is
  where
    own : (h : ℕ × ℕ) (o : Option TouchedData) → first_storer plan pairs (opened past) ≡ Some h → Judged verdicts plan (view_of verdicts plan past h.1 Request (asked plan past r.0)) pairs o → IsTrue (is_some o) ↔ MayFollow verdicts plan past (steps.Store r pairs)
    own h None e unset = (λ some. cc, λ may. absurd ((store_needs verdicts plan past r pairs may).3 h e unset))
    own h (Some touch) e sets = (λ some. store_follows verdicts plan past r h pairs touch e room idle sets, λ may. refl)

    by : (o : Option (ℕ × ℕ)) → first_storer plan pairs (opened past) ≡ o → Some handler ≡ option_map (λ h. h.1) o → IsTrue (is_some touched) ↔ MayFollow verdicts plan past (steps.Store r pairs)
    by None e h = cc
    by (Some k) e h =
        let same : handler ≡ k.1 = cc in
        own k touched e (subst (λ (n : ℕ). Judged verdicts plan (view_of verdicts plan past n Request (asked plan past r.0)) pairs touched) same judged)

-- what a list is judged against
pub seen : (verdicts : Verdicts) (plan own : PlanData) (past : Past) (handler : ℕ) (which : Which) (controls : List Control) (values : Values) (grabs : Grabs) (asked_before : List Pair) (view : ListData)
    → ◌≡◌ {A = ListData} view (record { plan = own; parts = record { handler = handler; which = which; ranges = controls; values = values; grabs = grabs; asked = asked_before } })
    → own ≡ plan → controls ≡ ranges_now plan past → values ≡ now verdicts plan past → grabs ≡ grabbed plan past → ◌≡◌ {A = ListData} view (record { plan = plan; parts = view_of verdicts plan past handler which asked_before })
seen verdicts plan own past handler which controls values grabs asked_before view is p cs vs gs = is ∙ (λ i. let l : ListData = record { plan = p i; parts = record { handler = handler; which = which; ranges = cs i; values = vs i; grabs = gs i; asked = asked_before } } in l)

-- a list that is set, with the pairs' own controls
pub is_set : (verdicts : Verdicts) (plan : PlanData) (view : ListData) (to : ViewData) (list : List ExtControl) (pairs : List Pair) (touch : TouchedData) → ◌≡◌ {A = ListData} view (record { plan = plan; parts = to }) → list ≡ entries_of plan pairs
    → first_refusal (write_checks verdicts view.plan view.parts true list) ≡ None → touch.answers ≡ entries_judged verdicts view.plan view.parts list → IsTouched verdicts view.plan view.parts list touch → touch.pairs ≡ pairs → IsSet verdicts plan to pairs touch
is_set verdicts plan view to list pairs touch at is accepted answers touches own = record {
  accepted = subst (λ (l : List ExtControl). first_refusal (write_checks verdicts plan to true l) ≡ None) is (subst (λ (v : ListData). first_refusal (write_checks verdicts v.plan v.parts true list) ≡ None) at accepted);
  answers = subst (λ (l : List ExtControl). touch.answers ≡ entries_judged verdicts plan to l) is (subst (λ (v : ListData). touch.answers ≡ entries_judged verdicts v.plan v.parts list) at answers);
  touches = subst (λ (l : List ExtControl). IsTouched verdicts plan to l touch) is (subst (λ (v : ListData). IsTouched verdicts v.plan v.parts list touch) at touches);
  own_pairs = own;
}

-- a list that names other controls isn't the pairs' own
pub is_other : (verdicts : Verdicts) (plan : PlanData) (view : ListData) (to : ViewData) (list : List ExtControl) (pairs : List Pair) (touch : TouchedData) → ◌≡◌ {A = ListData} view (record { plan = plan; parts = to }) → list ≡ entries_of plan pairs
    → IsTouched verdicts view.plan view.parts list touch → (touch.pairs ≡ pairs → ⊥) → IsUnset verdicts plan to pairs
is_other verdicts plan view to list pairs touch at is touches other =
    let own : IsTouched verdicts plan to (entries_of plan pairs) touch =
    subst (λ (l : List ExtControl). IsTouched verdicts plan to l touch) is (subst (λ (v : ListData). IsTouched verdicts v.plan v.parts list touch) at touches) in
    λ accepted names. other (own.own_pairs ∙ names)
