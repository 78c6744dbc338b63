-- A set that is accepted is made whole: no cluster is refused.
use Rattle.std.proofs.Common.{◌≡◌, ℕ, Bool, true, false, ◌||◌, ◌+◌, ◌<◌, List, [], ◌∷◌, ◌++◌, length, map, unwrap_or, Option, None, Some, Result, Ok, Err, refl, ap, sym, subst, ◌∙◌, ◌==◌, ◌≢◌, ◌⊎◌, inl, inr}
use Rattle.std.specs.List.{list_any}
use Rattle.std.proofs.lemmas.Bool.Decides.{eqb_tells}
use Rattle.ctrl_types.specs.declared.value.CtrlValue.{CtrlValue}
use Rattle.ctrl_types.specs.declared.errno.Errno.{Errno}
use Rattle.ctrl_types.specs.declared.check.Check.TheVariants.{TooManyEntries, ClassNotShown}
use Rattle.ctrl_types.specs.Classes.{which_of}
use Rattle.ctrl_types.specs.declared.ids.ExtControl.{ExtControl}
use Rattle.ctrl_types.specs.declared.ids.FhId.{FhId}
use Rattle.ctrl_types.specs.declared.ids.Pair.{Pair}
use Rattle.ctrl_types.specs.declared.ids.RequestId.{RequestId}
use Rattle.ctrl_calls.specs.Meanings.{Verdicts}
use Rattle.ctrl_settle.specs.Control.{Control}
use Rattle.ctrl_handlers.specs.Plan.{PlanData, IsPlan, control, cluster_of, members}
use Rattle.ctrl_handlers.proofs.ClusterLemmas.{cluster_of_member, cluster_of_within}
use Rattle.ctrl_clusters.specs.Rows.{Grabs, is_grabbed, Values, value_at, row_of}
use Rattle.ctrl_clusters.specs.Overlay.{is_touched, row_after, result_value, result_value_in, value_after, overlay, no_grabs}
use Rattle.ctrl_clusters.proofs.OverlayLemmas.{held_none, held_not, overlaid_row, member_after}
use Rattle.ctrl_types.specs.declared.refusal.Refusal.{Refusal}
use Rattle.ctrl_lists.specs.View.{ViewData, pairs_of}
use Rattle.ctrl_lists.specs.Checks.{at_first, row_check, first_from, first_refusal, is_long, is_of_no_class, pairs_judged, refused_if, row_judged, judging_check, naming_check, writing_check, write_checks}
use Rattle.ctrl_lists.specs.Answers.{entry_judged, value_judged}
use Rattle.ctrl_lists.proofs.TouchedLemmas.{is_at, touched_members}
use Rattle.device_history.specs.declared.ask.Reply.TheVariants.{Controls}
use Rattle.device_history.specs.Steps.{Past}
use Rattle.device_history.specs.Ranges.{ranges_now}
use Rattle.device_history.specs.Grabs.{grabbed}
use Rattle.device_history.specs.Values.{now}
use Rattle.device_history.specs.Lists.{earlier_pairs, list_pairs, meant, write_view, set_list_answer, values_set, which_or}
use Rattle.device_history.proofs.PresentLemmas.{length_now}
use Rattle.device_history.proofs.ListLemmas.{passes, none_found, accepted_free, set_passes}

-- the pairs have one of a control in this cluster
abbrev some_in : PlanData → List Pair → ℕ → Bool
some_in plan pairs k = list_any (λ p. is_at (cluster_of plan p.control) k) pairs

-- the cluster of a pair that passes judging isn't refused
judged_here : (verdicts : Verdicts) (plan : PlanData) (view : ViewData) (over : List Pair) (o : Option ℕ) (k : ℕ) → row_check (row_judged verdicts plan view over o) ≡ None → is_at o k ≡ true
    → row_check (row_judged verdicts plan view over (Some k)) ≡ None
judged_here verdicts plan view over None k h at = cc
judged_here verdicts plan view over (Some j) k h at = by (eqb_tells k j)
  where
    by : ((k == j) ≡ true × (k ≡ j)) ⊎ ((k == j) ≡ false × (k ≢ j)) → row_check (row_judged verdicts plan view over (Some k)) ≡ None
    by (inl e) = subst (λ (i : ℕ). row_check (row_judged verdicts plan view over (Some i)) ≡ None) (sym e.1) h
    by (inr e) = absurd (clash (sym e.0 ∙ at))
      where
        clash : false ≡ true → ⊥
        clash h = cc

-- nor is any cluster with a control among pairs that pass
judged_all : (verdicts : Verdicts) (plan : PlanData) (view : ViewData) (over : List Pair) (n : ℕ) (pairs : List Pair) (k : ℕ) → first_from (judging_check verdicts plan view over) n pairs ≡ None → some_in plan pairs k ≡ true
    → row_check (row_judged verdicts plan view over (Some k)) ≡ None
judged_all verdicts plan view over n [] k h some = cc
judged_all verdicts plan view over n (p ∷ pairs) k h some =
    let parts : (judging_check verdicts plan view over p ≡ None) × (first_from (judging_check verdicts plan view over) (n + 1) pairs ≡ None) =
    none_found n (judging_check verdicts plan view over p) (first_from (judging_check verdicts plan view over) (n + 1) pairs) h in
    by (is_at (cluster_of plan p.control) k) refl parts.0 (λ more. judged_all verdicts plan view over (n + 1) pairs k parts.1 more) some
  where
    by : (b : Bool) → is_at (cluster_of plan p.control) k ≡ b → judging_check verdicts plan view over p ≡ None → (some_in plan pairs k ≡ true → row_check (row_judged verdicts plan view over (Some k)) ≡ None)
        → (b || some_in plan pairs k) ≡ true → row_check (row_judged verdicts plan view over (Some k)) ≡ None
    by true at own rest h = judged_here verdicts plan view over (cluster_of plan p.control) k own at
    by false at own rest h = rest h

-- grabs of other controls don't matter to a row
same_ungrabbed : (verdicts : Verdicts) (plan : PlanData) (controls : List Control) (values : Values) (grabs : Grabs) (pairs : List Pair) (k : ℕ) → list_any (λ p. is_grabbed grabs p.control) pairs ≡ false
    → row_after verdicts plan controls values grabs pairs k ≡ row_after verdicts plan controls values no_grabs pairs k
same_ungrabbed verdicts plan controls values grabs pairs k free = rw (held_none grabs pairs (members plan k) free, held_not pairs (members plan k)) refl

-- a row that isn't refused is the one that the cluster has then
row_made : (verdicts : Verdicts) (plan : PlanData) (controls : List Control) (values : Values) (grabs : Grabs) (pairs : List Pair) (k : ℕ) → IsPlan plan → length values ≡ length plan.controls → k < length plan.clusters
    → row_check (row_after verdicts plan controls values grabs pairs k) ≡ None
    → row_after verdicts plan controls values grabs pairs k ≡ Ok (row_of (overlay verdicts plan controls values grabs pairs) (members plan k))
row_made verdicts plan controls values grabs pairs k is many lt fine = by (row_after verdicts plan controls values grabs pairs k) refl fine
  where
    by : (r : Result (List CtrlValue) Errno) → row_after verdicts plan controls values grabs pairs k ≡ r → row_check r ≡ None → r ≡ Ok (row_of (overlay verdicts plan controls values grabs pairs) (members plan k))
    by (Ok row) e h = ap (λ (l : List CtrlValue). Ok l) (sym (overlaid_row verdicts plan controls values grabs pairs k row is many lt e))
    by (Err errno) e h = cc

-- What an accepted set is made of: none of its controls is grabbed, each passes judging, and it is answered so.
record IsWhole (verdicts : Verdicts) (plan : PlanData) (view : ViewData) (pairs : List Pair) (answers : List ExtControl) : Type 0 where
  free : list_any (λ p. is_grabbed view.grabs p.control) pairs ≡ false
  passed : at_first (judging_check verdicts plan view pairs) pairs ≡ None
  answers_are : answers ≡ map (entry_judged verdicts plan view pairs) pairs

-- the fifth of five checks that pass
fifth : (a b c d e : Option Refusal) → first_refusal (a ∷ b ∷ c ∷ d ∷ e ∷ []) ≡ None → e ≡ None
fifth a b c d e h =
    let first = passes a (b ∷ c ∷ d ∷ e ∷ []) h in
    let second = passes b (c ∷ d ∷ e ∷ []) first.1 in
    let third = passes c (d ∷ e ∷ []) second.1 in
    let fourth = passes d (e ∷ []) third.1 in
    let last = passes e [] fourth.1 in
    last.0

accepted_judged : (verdicts : Verdicts) (plan : PlanData) (view : ViewData) (list : List ExtControl) → first_refusal (write_checks verdicts plan view true list) ≡ None
    → at_first (judging_check verdicts plan view (pairs_judged plan view list)) (pairs_of plan view.handler view.which list) ≡ None
accepted_judged verdicts plan view list passed =
    fifth (refused_if (is_long list) TooManyEntries) (refused_if (is_of_no_class plan view list) ClassNotShown) (at_first (naming_check plan view) list)
    (at_first (writing_check plan view true) (pairs_of plan view.handler view.which list))
    (at_first (judging_check verdicts plan view (pairs_judged plan view list)) (pairs_of plan view.handler view.which list)) passed

whole : (verdicts : Verdicts) (plan : PlanData) (older : Past) (fh : FhId) (which : ℕ) (request : Option RequestId) (list answers : List ExtControl) → meant (which_or (which_of which)) request ≡ None → set_list_answer verdicts plan older fh which request list ≡ Ok (Controls answers)
    → IsWhole verdicts plan (write_view verdicts plan older fh which request) (list_pairs plan older fh which list) answers
whole verdicts plan older fh which request list answers current is =
    let view : ViewData = write_view verdicts plan older fh which request in
    let accepted = set_passes verdicts plan older fh which request list answers is in
    let pairs : List Pair = list_pairs plan older fh which list in
    record {
      free = accepted_free verdicts plan view list accepted.1;
      passed = subst (λ (o : Option RequestId). at_first (judging_check verdicts plan view (earlier_pairs plan older o ++ pairs)) pairs ≡ None) current (accepted_judged verdicts plan view list accepted.1);
      answers_are = subst (λ (o : Option RequestId). answers ≡ map (entry_judged verdicts plan view (earlier_pairs plan older o ++ pairs)) pairs) current accepted.2;
    }

-- a cluster without a control of the pairs keeps its row
untouched : (verdicts : Verdicts) (plan : PlanData) (controls : List Control) (values : Values) (grabs : Grabs) (pairs : List Pair) (k : ℕ) → is_touched pairs (members plan k) ≡ false
    → row_check (row_after verdicts plan controls values grabs pairs k) ≡ None
untouched verdicts plan controls values grabs pairs k none = rw none refl

-- no cluster is refused where an accepted set's pairs are laid
none_refused : (verdicts : Verdicts) (plan : PlanData) (view : ViewData) (pairs : List Pair) (answers : List ExtControl) (k : ℕ) → IsPlan plan → k < length plan.clusters
    → IsWhole verdicts plan view pairs answers → row_check (row_after verdicts plan view.ranges view.values view.grabs pairs k) ≡ None
none_refused verdicts plan view pairs answers k is lt whole = by (is_touched pairs (members plan k)) refl
  where
    laid : some_in plan pairs k ≡ true → row_check (row_after verdicts plan view.ranges view.values no_grabs pairs k) ≡ None
    laid some = judged_all verdicts plan view pairs 0 pairs k whole.passed some

    by : (b : Bool) → is_touched pairs (members plan k) ≡ b → row_check (row_after verdicts plan view.ranges view.values view.grabs pairs k) ≡ None
    by true touched = ap row_check (same_ungrabbed verdicts plan view.ranges view.values view.grabs pairs k whole.free) ∙ laid (sym (touched_members plan pairs k is lt) ∙ touched)
    by false none = untouched verdicts plan view.ranges view.values view.grabs pairs k none

-- each cluster has the row that an accepted set's pairs make of it
pub all_rows : (verdicts : Verdicts) (plan : PlanData) (older : Past) (fh : FhId) (which k : ℕ) (request : Option RequestId) (list answers : List ExtControl) → IsPlan plan → meant (which_or (which_of which)) request ≡ None
    → set_list_answer verdicts plan older fh which request list ≡ Ok (Controls answers)
    → k < length plan.clusters → row_after verdicts plan (ranges_now plan older) (now verdicts plan older) (grabbed plan older) (list_pairs plan older fh which list) k ≡ Ok (row_of (values_set verdicts plan older fh which list) (members plan k))
all_rows verdicts plan older fh which k request list answers is current accepted lt =
    row_made verdicts plan (ranges_now plan older) (now verdicts plan older) (grabbed plan older) (list_pairs plan older fh which list) k is (length_now verdicts plan older) lt
    (none_refused verdicts plan (write_view verdicts plan older fh which request) (list_pairs plan older fh which list) answers k is lt (whole verdicts plan older fh which request list answers current accepted))

-- what an entry is answered is the value that its control has then
entry_made : (verdicts : Verdicts) (plan : PlanData) (controls : List Control) (values : Values) (grabs : Grabs) (pairs : List Pair) (c : ℕ) (o : Option ℕ) → IsPlan plan → length values ≡ length plan.controls
    → list_any (λ p. is_grabbed grabs p.control) pairs ≡ false → cluster_of plan c ≡ o → o ≢ None
    → value_after verdicts plan controls values no_grabs pairs c ≡ value_at (overlay verdicts plan controls values grabs pairs) c
entry_made verdicts plan controls values grabs pairs c None is many free found some = absurd (some refl)
entry_made verdicts plan controls values grabs pairs c (Some k) is many free found some =
    ap (λ (o : Option ℕ). unwrap_or (result_value_in plan (row_after verdicts plan controls values no_grabs pairs) o c) (value_at values c)) found
    ∙ ap (λ (r : Result (List CtrlValue) Errno). unwrap_or (result_value (members plan k) r c) (value_at values c)) (sym (same_ungrabbed verdicts plan controls values grabs pairs k free))
    ∙ sym (member_after verdicts plan controls values grabs pairs k c is many (cluster_of_within plan c k found) (cluster_of_member plan c k found))

-- so are all
entries_made : (verdicts : Verdicts) (plan : PlanData) (controls : List Control) (values : Values) (grabs : Grabs) (view : ViewData) (pairs rest : List Pair) (n : ℕ) → IsPlan plan → length values ≡ length plan.controls
    → view.ranges ≡ controls → view.values ≡ values → list_any (λ p. is_grabbed grabs p.control) pairs ≡ false → first_from (judging_check verdicts plan view pairs) n rest ≡ None
    → map (entry_judged verdicts plan view pairs) rest ≡ map (λ p. record { id = (control plan p.control).id; value = value_at (overlay verdicts plan controls values grabs pairs) p.control }) rest
entries_made verdicts plan controls values grabs view pairs [] n is many cs vs free passed = refl
entries_made verdicts plan controls values grabs view pairs (p ∷ rest) n is many cs vs free passed =
    let parts : (judging_check verdicts plan view pairs p ≡ None) × (first_from (judging_check verdicts plan view pairs) (n + 1) rest ≡ None) =
    none_found n (judging_check verdicts plan view pairs p) (first_from (judging_check verdicts plan view pairs) (n + 1) rest) passed in
    let value : value_judged verdicts plan view pairs p.control ≡ value_at (overlay verdicts plan controls values grabs pairs) p.control =
    ap (λ (l : List Control). value_after verdicts plan l view.values no_grabs pairs p.control) cs
    ∙ ap (λ (v : Values). value_after verdicts plan controls v no_grabs pairs p.control) vs
    ∙ entry_made verdicts plan controls values grabs pairs p.control (cluster_of plan p.control) is many free refl (clustered (cluster_of plan p.control) parts.0) in
    rw (value, entries_made verdicts plan controls values grabs view pairs rest (n + 1) is many cs vs free parts.1) refl
  where
    clustered : (o : Option ℕ) → row_check (row_judged verdicts plan view pairs o) ≡ None → o ≢ None
    clustered None h = λ e. clash h
      where
        clash : row_check (row_judged verdicts plan view pairs None) ≡ None → ⊥
        clash f = cc
    clustered (Some k) h = λ e. cc

-- each entry of an accepted set is answered the value that its control has then
pub all_answers : (verdicts : Verdicts) (plan : PlanData) (older : Past) (fh : FhId) (which : ℕ) (request : Option RequestId) (list answers : List ExtControl) → IsPlan plan → meant (which_or (which_of which)) request ≡ None
    → set_list_answer verdicts plan older fh which request list ≡ Ok (Controls answers)
    → answers ≡ map (λ p. record { id = (control plan p.control).id; value = value_at (values_set verdicts plan older fh which list) p.control }) (list_pairs plan older fh which list)
all_answers verdicts plan older fh which request list answers is current accepted =
    let it = whole verdicts plan older fh which request list answers current accepted in
    let pairs : List Pair = list_pairs plan older fh which list in
    it.answers_are ∙ entries_made verdicts plan (ranges_now plan older) (now verdicts plan older) (grabbed plan older) (write_view verdicts plan older fh which request) pairs pairs 0 is (length_now verdicts plan older) refl refl it.free it.passed
