-- What a list that is read, or accepted, says of its checks.
use Rattle.std.proofs.Common.{◌≡◌, ℕ, Bool, true, false, cond, ◌&&◌, ◌+◌, List, [], ◌∷◌, ◌++◌, length, Option, None, Some, Ok, refl}
use Rattle.std.specs.List.{list_any}
use Rattle.ctrl_types.specs.Flags.{contains}
use Rattle.ctrl_types.specs.declared.check.Check.{Check}
use Rattle.ctrl_types.specs.declared.check.Check.TheVariants.{TooManyEntries, ClassNotShown, EntryReadOnly, EntryGrabbed, ListHistoryFull}
use Rattle.ctrl_types.specs.declared.flags.TheConstants.Flags.{READ_ONLY}
use Rattle.ctrl_types.specs.declared.ids.ExtControl.{ExtControl}
use Rattle.ctrl_types.specs.declared.ids.FhId.{FhId}
use Rattle.ctrl_types.specs.declared.ids.Pair.{Pair}
use Rattle.ctrl_types.specs.declared.ids.RequestId.{RequestId}
use Rattle.ctrl_calls.specs.Meanings.{Verdicts}
use Rattle.ctrl_settle.specs.Settle.{settle_check}
use Rattle.ctrl_handlers.specs.Plan.{PlanData, control, control_in}
use Rattle.ctrl_types.specs.declared.refusal.Refusal.{Refusal}
use Rattle.ctrl_lists.specs.View.{ViewData, pairs_of}
use Rattle.ctrl_lists.specs.Checks.{at_first, first_from, first_refusal, found_at, is_long, is_of_no_class, pairs_judged, refused_if, judging_check, naming_check, writing_check, write_checks}
use Rattle.ctrl_lists.specs.Answers.{answered, entries_judged}
use Rattle.ctrl_types.specs.Refusals.{fault_at_count}
use Rattle.ctrl_clusters.specs.Rows.{is_grabbed}
use Rattle.device_history.specs.declared.ask.Reply.TheVariants.{Controls}
use Rattle.device_history.specs.Steps.{Past}
use Rattle.device_history.specs.Refusals.{is_full}
use Rattle.device_history.specs.Lists.{write_view, opening_checks, set_checks, controls_of, set_list_answer}

-- where the checks before pass, the first refusal stands behind them
pub first_behind : (before behind : List (Option Refusal)) → first_refusal before ≡ None → first_refusal (before ++ behind) ≡ first_refusal behind
first_behind [] behind h = refl
first_behind (None ∷ before) behind h = first_behind before behind h
first_behind (Some refusal ∷ before) behind h = cc

-- where one of them refuses, it is theirs
pub first_before : (before behind : List (Option Refusal)) (refusal : Refusal) → first_refusal before ≡ Some refusal → first_refusal (before ++ behind) ≡ Some refusal
first_before [] behind refusal h = cc
first_before (None ∷ before) behind refusal h = first_before before behind refusal h
first_before (Some other ∷ before) behind refusal h = h

-- where nothing refuses, nothing before refuses, and nothing behind
pub none_of_both : (before behind : List (Option Refusal)) → first_refusal (before ++ behind) ≡ None → (first_refusal before ≡ None) × (first_refusal behind ≡ None)
none_of_both [] behind h = (refl, h)
none_of_both (None ∷ before) behind h = none_of_both before behind h
none_of_both (Some refusal ∷ before) behind h = cc

-- a set that is accepted passes the first checks, and the list's own
pub set_passes : (verdicts : Verdicts) (plan : PlanData) (past : Past) (fh : FhId) (which : ℕ) (request : Option RequestId) (list answers : List ExtControl) → set_list_answer verdicts plan past fh which request list ≡ Ok (Controls answers)
    → (first_refusal (opening_checks verdicts plan past fh which request true) ≡ None) × (first_refusal (write_checks verdicts plan (write_view verdicts plan past fh which request) true list) ≡ None)
    × (answers ≡ entries_judged verdicts plan (write_view verdicts plan past fh which request) list)
set_passes verdicts plan past fh which request list answers is =
    let all = accepted (first_refusal (set_checks verdicts plan past fh which request list)) is in
    let parts = none_of_both (opening_checks verdicts plan past fh which request true) (own ++ limit) all.0 in
    (parts.0, (none_of_both own limit parts.1).0, all.1)
  where
    own : List (Option Refusal)
    own = write_checks verdicts plan (write_view verdicts plan past fh which request) true list

    limit : List (Option Refusal)
    limit = refused_if (is_full past) ListHistoryFull ∷ []

    entries : List ExtControl
    entries = entries_judged verdicts plan (write_view verdicts plan past fh which request) list

    accepted : (first : Option Refusal) → controls_of (answered (fault_at_count (length list)) first entries) ≡ Ok (Controls answers) → (first ≡ None) × (answers ≡ entries)
    accepted None h = (refl, cc)
    accepted (Some refusal) h = cc

-- what passes each check passes the first
pub passes : (check : Option Refusal) (checks : List (Option Refusal)) → first_refusal (check ∷ checks) ≡ None → (check ≡ None) × (first_refusal checks ≡ None)
passes None checks h = (refl, h)
passes (Some refusal) checks h = cc

-- the fourth of four checks that pass
pub fourth : (a b c d e : Option Refusal) → first_refusal (a ∷ b ∷ c ∷ d ∷ e ∷ []) ≡ None → d ≡ None
fourth a b c d e h =
    let first = passes a (b ∷ c ∷ d ∷ e ∷ []) h in
    let second = passes b (c ∷ d ∷ e ∷ []) first.1 in
    let third = passes c (d ∷ e ∷ []) second.1 in
    let last = passes d (e ∷ []) third.1 in
    last.0

pub none_found : (n : ℕ) (o : Option Check) (behind : Option Refusal) → found_at n o behind ≡ None → (o ≡ None) × (behind ≡ None)
none_found n None behind h = (refl, h)
none_found n (Some check) behind h = cc

not_grabbed : (a g : Bool) (rest : Option Check) → cond a (Some EntryReadOnly) (cond (true && g) (Some EntryGrabbed) rest) ≡ None → g ≡ false
not_grabbed true g rest h = cc
not_grabbed false true rest h = cc
not_grabbed false false rest h = refl

free_from : (plan : PlanData) (view : ViewData) (n : ℕ) (pairs : List Pair) → first_from (writing_check plan view true) n pairs ≡ None → list_any (λ p. is_grabbed view.grabs p.control) pairs ≡ false
free_from plan view n [] h = refl
free_from plan view n (p ∷ pairs) h =
    let parts : (writing_check plan view true p ≡ None) × (first_from (writing_check plan view true) (n + 1) pairs ≡ None) = none_found n (writing_check plan view true p) (first_from (writing_check plan view true) (n + 1) pairs) h in
    let own : is_grabbed view.grabs p.control ≡ false =
    not_grabbed (contains (control plan p.control).flags READ_ONLY) (is_grabbed view.grabs p.control) (settle_check (control_in view.ranges p.control) p.value) parts.0 in
    rw own (free_from plan view (n + 1) pairs parts.1)

-- no control of a set that is accepted is grabbed
pub accepted_free : (verdicts : Verdicts) (plan : PlanData) (view : ViewData) (list : List ExtControl) → first_refusal (write_checks verdicts plan view true list) ≡ None
    → list_any (λ p. is_grabbed view.grabs p.control) (pairs_of plan view.handler view.which list) ≡ false
accepted_free verdicts plan view list passed =
    free_from plan view 0 (pairs_of plan view.handler view.which list)
    (fourth (refused_if (is_long list) TooManyEntries) (refused_if (is_of_no_class plan view list) ClassNotShown) (at_first (naming_check plan view) list)
    (at_first (writing_check plan view true) (pairs_of plan view.handler view.which list))
    (at_first (judging_check verdicts plan view (pairs_judged plan view list)) (pairs_of plan view.handler view.which list)) passed)
