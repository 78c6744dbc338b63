-- A set that is accepted can be made.
use Rattle.std.proofs.Common.{◌≡◌, ℕ, true, false, List, ◌++◌, length, None, Some, Ok, Option, inr, refl, ap, sym, subst, ◌∙◌}
use Rattle.std.specs.List.{list_any}
use Rattle.ctrl_types.specs.declared.check.Check.TheVariants.{MemoryRefused}
use Rattle.ctrl_types.specs.declared.ids.ExtControl.{ExtControl}
use Rattle.ctrl_types.specs.declared.ids.FhId.{FhId}
use Rattle.ctrl_types.specs.declared.ids.Pair.{Pair}
use Rattle.ctrl_types.specs.declared.ids.RequestId.{RequestId}
use Rattle.ctrl_types.specs.Classes.{which_of}
use Rattle.device_history.specs.declared.ask.Reply.TheVariants.{Controls}
use Rattle.device_history.specs.declared.ask.Step.TheVariants.{Set, Store}
use Rattle.device_history.specs.Ranges.{ranges_now}
use Rattle.ctrl_calls.specs.Meanings.{Verdicts}
use Rattle.ctrl_handlers.specs.Plan.{PlanData, IsPlan}
use Rattle.ctrl_lists.specs.View.{ViewData, pairs_of}
use Rattle.ctrl_lists.specs.Checks.{first_refusal, write_checks}
use Rattle.ctrl_lists.specs.Touched.{TouchedData, AreJudged, IsTouched, touched, judged_count, with_calls}
use Rattle.ctrl_lists.specs.Answers.{entries_judged}
use Rattle.device_history.specs.declared.ask.Ask.TheVariants as asks
use Rattle.device_history.specs.Steps.{Past}
use Rattle.ctrl_clusters.specs.Rows.{is_grabbed}
use Rattle.device_history.specs.Grabs.{grabbed}
use Rattle.device_history.specs.Values.{now}
use Rattle.device_history.specs.Refusals.{is_full, refused_at, fault_of}
use Rattle.device_history.specs.Lists.{write_view, earlier_pairs, list_pairs, meant, opening_checks, pairs_step, set_list_answer, which_or}
use Rattle.device_history.specs.Answers.{MayAnswer, step_of}
use Rattle.device_state.specs.Setting.{CanBeSet}
use Rattle.device_history.proofs.ListLemmas.{accepted_free}
use Rattle.device_state.proofs.AnswerLemmas.{set_accepted}
use Rattle.device_state.proofs.BoundLemmas.{set_opened}

-- an accepted set for which there is no memory
pub set_lacks : (verdicts : Verdicts) (plan : PlanData) (older : Past) (words : List ℕ) (fh : FhId) (which : ℕ) (request : Option RequestId) (list : List ExtControl) (touch : TouchedData)
    → set_list_answer verdicts plan older fh which request list ≡ Ok (Controls touch.answers) → MayAnswer verdicts plan older words (asks.SetCtrls fh which request list) (refused_at MemoryRefused (length list))
set_lacks verdicts plan older words fh which request list touch accepted = inr (((set_opened verdicts plan older fh which request list touch.answers accepted).0, inr (rw accepted refl)), refl)

-- the pairs that an accepted list touches clusters with are its own
pub touched_pairs : (verdicts : Verdicts) (plan : PlanData) (older : Past) (fh : FhId) (which : ℕ) (request : Option RequestId) (list : List ExtControl) (view : ViewData) (touch : TouchedData) → view ≡ write_view verdicts plan older fh which request
    → IsTouched verdicts plan view list touch → touch.pairs ≡ list_pairs plan older fh which list
touched_pairs verdicts plan older fh which request list view touch read touching =
    let it : IsTouched verdicts plan (write_view verdicts plan older fh which request) list touch = subst (λ (v : ViewData). IsTouched verdicts plan v list touch) read touching in
    it.own_pairs

-- a set that is accepted can be made
pub settable : (verdicts : Verdicts) (plan : PlanData) (older : Past) (fh : FhId) (which : ℕ) (request : Option RequestId) (list : List ExtControl) (view : ViewData) (touch : TouchedData) → IsPlan plan
    → first_refusal (opening_checks verdicts plan older fh which request true) ≡ None → view ≡ write_view verdicts plan older fh which request → first_refusal (write_checks verdicts plan view true list) ≡ None
    → touch.answers ≡ entries_judged verdicts plan view list → IsTouched verdicts plan view list touch → is_full older ≡ false → CanBeSet verdicts plan older fh (meant (which_or (which_of which)) request) touch
settable verdicts plan older fh which request list view touch plans opens read passed answers touching room =
    let it : IsTouched verdicts plan (write_view verdicts plan older fh which request) list touch = subst (λ (v : ViewData). IsTouched verdicts plan v list touch) read touching in
    let own : first_refusal (write_checks verdicts plan (write_view verdicts plan older fh which request) true list) ≡ None = subst (λ (v : ViewData). first_refusal (write_checks verdicts plan v true list) ≡ None) read passed in
    let accepted : set_list_answer verdicts plan older fh which request list ≡ Ok (Controls touch.answers) = set_accepted verdicts plan older fh which request list view touch.answers opens read passed answers room in
    record {
      plans = plans;
      known = it.known;
      judged = subst (λ (l : List Pair). AreJudged verdicts plan (ranges_now plan older) (now verdicts plan older) (earlier_pairs plan older (meant (which_or (which_of which)) request) ++ l) l touch.rows) (sym it.own_pairs) it.judged;
      free = subst (λ (l : List Pair). list_any (λ p. is_grabbed (grabbed plan older) p.control) l ≡ false) (sym it.own_pairs) (accepted_free verdicts plan (write_view verdicts plan older fh which request) list own);
      room = room;
      follows = (asks.SetCtrls fh which request list, ap fault_of accepted, ap (λ (pairs : List Pair). Some (pairs_step (meant (which_or (which_of which)) request) fh pairs)) (sym it.own_pairs));
    }

-- and its step is a set
pub set_step : (request : Option RequestId) (fh : FhId) (pairs : List Pair) → request ≡ None → pairs_step request fh pairs ≡ Set fh pairs
set_step None fh pairs h = refl
set_step (Some r) fh pairs h = cc

-- that of one that speaks of a request stores
pub store_step : (request : Option RequestId) (stored : RequestId) (fh : FhId) (pairs : List Pair) → request ≡ Some stored → pairs_step request fh pairs ≡ Store stored pairs
store_step None stored fh pairs h = cc
store_step (Some r) stored fh pairs h = ap (λ (x : RequestId). Store x pairs) (same r stored h)
  where
    same : (a b : RequestId) → Some a ≡ Some b → a ≡ b
    same a b h = cc

-- an accepted list that speaks of a request stores its pairs
pub store_adds : (verdicts : Verdicts) (plan : PlanData) (older : Past) (fh : FhId) (which : ℕ) (request : Option RequestId) (stored : RequestId) (list : List ExtControl) (touch : TouchedData)
    → touch.pairs ≡ list_pairs plan older fh which list → meant (which_or (which_of which)) request ≡ Some stored → step_of verdicts plan older (asks.SetCtrls fh which request list) ≡ Some (Store stored touch.pairs)
store_adds verdicts plan older fh which request stored list touch own_pairs through =
    ap Some (store_step (meant (which_or (which_of which)) request) stored fh (list_pairs plan older fh which list) through) ∙ ap (λ (pairs : List Pair). Some (Store stored pairs)) (sym own_pairs)

-- the pairs that an accepted list touches clusters with are those of its step
pub read_asked : (verdicts : Verdicts) (plan : PlanData) (older : Past) (fh : FhId) (which : ℕ) (request : Option RequestId) (list : List ExtControl) (view : ViewData) (asked before : ℕ) → view ≡ write_view verdicts plan older fh which request
    → asked ≡ with_calls (judged_count plan (touched plan (pairs_of plan view.handler view.which list))) before → asked ≡ with_calls (judged_count plan (touched plan (list_pairs plan older fh which list))) before
read_asked verdicts plan older fh which request list view asked before read is = subst (λ (v : ViewData). asked ≡ with_calls (judged_count plan (touched plan (pairs_of plan v.handler v.which list))) before) read is
