-- The rows that clusters get, and how many validators were asked for them.
use Rattle.std.proofs.Common.{◌≡◌, ℕ, ◌<◌, ◌≤◌, ◌+◌, ◌==◌, Bool, true, false, cond, nat_eq, eq-eqb, option_map, get_or, map, List, [], ◌∷◌, ◌++◌, length, Option, None, Some, is_some, unwrap_or, Ok, Err, Result, IsTrue, refl, ap, sym, ◌∙◌, arith}
use Rattle.std.specs.List.{All, list_any}
use Rattle.std.specs.Option.{option_and_then}
use Rattle.std.proofs.lemmas.List.{length_push, map-append}
use Rattle.std.proofs.lemmas.List.Folds.{list_any-append, list_any_at}
use Rattle.std.proofs.lemmas.List.Elements.{All-from_get_or, All-get_or, All-head, All-tail, All-weaker}
use Rattle.std.proofs.lemmas.List.Sums.{sum_by-append, sum_by-cons}
use Rattle.ctrl_types.specs.Values.{zero_value}
use Rattle.ctrl_types.specs.declared.value.CtrlValue.{CtrlValue}
use Rattle.ctrl_types.specs.declared.check.Check.TheVariants.{RowRefused}
use Rattle.ctrl_types.specs.declared.errno.Errno.{Errno}
use Rattle.ctrl_types.specs.declared.ids.ExtControl.{ExtControl}
use Rattle.ctrl_types.specs.declared.ids.Pair.{Pair}
use Rattle.ctrl_calls.specs.Meanings.{Verdicts}
use Rattle.ctrl_handlers.specs.Plan.{PlanData, control, cluster_of, calls_of, members}
use Rattle.ctrl_handlers.proofs.ClusterLemmas.{cluster_of_member}
use Rattle.ctrl_clusters.specs.Rows.{value_at, member_value}
use Rattle.ctrl_clusters.specs.Judging.{validated_row, after_judging}
use Rattle.ctrl_clusters.specs.Overlay.{is_among, row_after, result_value, result_value_in, value_after, no_grabs}
use Rattle.ctrl_clusters.specs.NewRows.{clusters_of, row_among, value_among, value_written}
use Rattle.ctrl_clusters.specs.declared.new_row.NewRow.{NewRow}
use Rattle.ctrl_clusters.proofs.CallLemmas.{judging_next}
use Rattle.ctrl_clusters.proofs.NewRowLemmas.{row_met, has_row}
use Rattle.ctrl_clusters.proofs.OverlayLemmas.{any_of, row_after_free, held_not, or_true_right}
use Rattle.ctrl_lists.specs.Lists.{ListData}
use Rattle.ctrl_lists.specs.View.{ViewData}
use Rattle.ctrl_lists.specs.Checks.{row_check, row_judged}
use Rattle.ctrl_lists.specs.Touched.{with_cluster, entry_in, AreRows, AreJudged, judged_count, with_calls}
use Rattle.ctrl_lists.specs.Answers.{entry_judged}
use Rattle.ctrl_lists.proofs.ListLemmas.{touched_has}

-- the cluster of a control among the pairs has the row that it becomes
pub laid_becomes : (verdicts : Verdicts) (plan : PlanData) (view : ViewData) (laid : List Pair) (c k : ℕ) → IsTrue (is_among laid c) → cluster_of plan c ≡ Some k
    → row_judged verdicts plan view laid (Some k) ≡ validated_row verdicts plan view.ranges view.values laid k
laid_becomes verdicts plan view laid c k among found =
    row_after_free verdicts plan view.ranges view.values no_grabs laid k (any_of (is_among laid) (members plan k) c (cluster_of_member plan c k found) (is_true among)) (held_not laid (members plan k))
  where
    is_true : {b : Bool} → IsTrue b → b ≡ true
    is_true h = h

-- a cluster that has a row was accepted
pub accepted : (verdicts : Verdicts) (plan : PlanData) (view : ViewData) (laid : List Pair) (rows : List NewRow) (c k : ℕ) → AreRows verdicts plan view.ranges view.values laid rows → IsTrue (is_among laid c) → cluster_of plan c ≡ Some k
    → is_some (row_among rows k) ≡ true → row_check (row_judged verdicts plan view laid (Some k)) ≡ None
accepted verdicts plan view laid rows c k are among found there = by (row_among rows k) refl there
  where
    by : (o : Option (List CtrlValue)) → row_among rows k ≡ o → is_some o ≡ true → row_check (row_judged verdicts plan view laid (Some k)) ≡ None
    by None at is = cc
    by (Some row) at is =
        ap row_check (laid_becomes verdicts plan view laid c k among found ∙ row_met (λ (j : ℕ) (x : List CtrlValue). validated_row verdicts plan view.ranges view.values laid j ≡ Ok x) rows k row are at)

-- what a cluster's row becomes is what is laid
pub accepted_now : (verdicts : Verdicts) (plan : PlanData) (view : ViewData) (laid : List Pair) (c k : ℕ) (row : List CtrlValue) → IsTrue (is_among laid c) → cluster_of plan c ≡ Some k
    → Ok row ≡ validated_row verdicts plan view.ranges view.values laid k → row_check (row_judged verdicts plan view laid (cluster_of plan c)) ≡ None
accepted_now verdicts plan view laid c k row among found is =
    ap (λ (o : Option ℕ). row_check (row_judged verdicts plan view laid o)) found ∙ ap row_check (laid_becomes verdicts plan view laid c k among found ∙ sym is)

pub refused_now : (verdicts : Verdicts) (plan : PlanData) (view : ViewData) (laid : List Pair) (c k : ℕ) (errno : Errno) → IsTrue (is_among laid c) → cluster_of plan c ≡ Some k
    → Err errno ≡ validated_row verdicts plan view.ranges view.values laid k → row_check (row_judged verdicts plan view laid (cluster_of plan c)) ≡ Some (RowRefused errno)
refused_now verdicts plan view laid c k errno among found is =
    ap (λ (o : Option ℕ). row_check (row_judged verdicts plan view laid o)) found ∙ ap row_check (laid_becomes verdicts plan view laid c k among found ∙ sym is)

-- a cluster that has a row isn't added again
pub added_not : (rows : List NewRow) (k : ℕ) → is_some (row_among rows k) ≡ true → clusters_of rows ≡ with_cluster (clusters_of rows) (Some k)
added_not rows k there = rw (has_row rows k, there) refl

-- one that has none is added
pub added : (rows : List NewRow) (k : ℕ) → is_some (row_among rows k) ≡ false → with_cluster (clusters_of rows) (Some k) ≡ clusters_of rows ++ k ∷ []
added rows k none = rw (has_row rows k, none) refl

pub added_length : (rows : List NewRow) (k : ℕ) → is_some (row_among rows k) ≡ false → length (with_cluster (clusters_of rows) (Some k)) ≡ length (clusters_of rows) + 1
added_length rows k none = ap length (added rows k none) ∙ length_push (clusters_of rows) k

-- its row comes last
pub added_row : (rows new : List NewRow) (r : NewRow) → is_some (row_among rows r.cluster) ≡ false → new ≡ rows ++ r ∷ [] → clusters_of new ≡ with_cluster (clusters_of rows) (Some r.cluster)
added_row rows new r none is = ap clusters_of is ∙ map-append (λ (t : NewRow). t.cluster) rows (r ∷ []) ∙ sym (added rows r.cluster none)

-- one more cluster is counted where it has a validator
pub counted_next : (plan : PlanData) (rows new : List NewRow) (r : NewRow) (n before after : ℕ) → new ≡ rows ++ r ∷ [] → after ≡ after_judging (calls_of plan r.cluster).validator before
    → before ≡ with_calls (judged_count plan (clusters_of rows)) n → after ≡ with_calls (judged_count plan (clusters_of new)) n
counted_next plan rows new r n before after is asked old =
    asked ∙ ap (after_judging (calls_of plan r.cluster).validator) old ∙ judging_next (calls_of plan r.cluster).validator judged n ∙ ap (λ (m : ℕ). with_calls m n) (sym more)
  where
    one : ℕ → ℕ
    one k = cond (is_some (calls_of plan k).validator) 1 0

    judged : ℕ
    judged = judged_count plan (clusters_of rows)

    more : judged_count plan (clusters_of new) ≡ judged + cond (is_some (calls_of plan r.cluster).validator) 1 0
    more =
        ap (λ (rs : List NewRow). judged_count plan (clusters_of rs)) is
        ∙ ap (judged_count plan) (map-append (λ (t : NewRow). t.cluster) rows (r ∷ []))
        ∙ sum_by-append (λ (k : ℕ). cond (is_some (calls_of plan k).validator) 1 0) (clusters_of rows) (r.cluster ∷ [])
        ∙ ap (λ (m : ℕ). judged + m) (sum_by-cons (λ (k : ℕ). cond (is_some (calls_of plan k).validator) 1 0) r.cluster [] ∙ omega arith)

-- each control of some pairs is among them, and among more of them
each_among : (pairs ps : List Pair) → ((c : ℕ) → is_among ps c ≡ true → is_among pairs c ≡ true) → All (λ p. IsTrue (is_among pairs p.control)) ps
each_among pairs ps there =
    All-from_get_or (λ p. IsTrue (is_among pairs p.control)) ps (record { control = 0; value = zero_value })
    (λ i lt. there (get_or ps i (record { control = 0; value = zero_value })).control
    (list_any_at (λ q. q.control == (get_or ps i (record { control = 0; value = zero_value })).control) ps i (record { control = 0; value = zero_value }) lt (eq-eqb _ _ refl)))

pub own_among : (pairs : List Pair) → All (λ p. IsTrue (is_among pairs p.control)) pairs
own_among pairs = each_among pairs pairs (λ c h. h)

pub more_among : (first pairs : List Pair) → All (λ p. IsTrue (is_among (first ++ pairs) p.control)) pairs
more_among first pairs =
    All-weaker (λ p. IsTrue (is_among pairs p.control)) (λ p. IsTrue (is_among (first ++ pairs) p.control))
    (λ p among. list_any-append (λ q. q.control == p.control) first pairs ∙ or_true_right (is_among first p.control) (is_among pairs p.control) among) pairs (own_among pairs)

-- the value that the rows give a control of the list is the one that it has once its cluster was judged
pub value_same : (verdicts : Verdicts) (plan : PlanData) (view : ViewData) (laid pairs : List Pair) (rows : List NewRow) (i : ℕ) (d : Pair)
    → AreJudged verdicts plan view.ranges view.values laid pairs rows → i < length pairs → IsTrue (is_among laid (get_or pairs i d).control)
    → value_written plan view.values rows (get_or pairs i d).control ≡ value_after verdicts plan view.ranges view.values no_grabs laid (get_or pairs i d).control
value_same verdicts plan view laid pairs rows i d judged within among = by (cluster_of plan c) refl
  where
    c : ℕ
    c = (get_or pairs i d).control

    own : CtrlValue
    own = value_at view.values c

    at : (k : ℕ) (o : Option (List CtrlValue)) → cluster_of plan c ≡ Some k → row_among rows k ≡ o → is_some o ≡ true
        → unwrap_or (option_and_then (λ row. member_value (members plan k) row c) o) own ≡ unwrap_or (result_value (members plan k) (row_judged verdicts plan view laid (Some k)) c) own
    at k None is found there = cc
    at k (Some row) is found there =
        rw (laid_becomes verdicts plan view laid c k among is, row_met (λ (j : ℕ) (x : List CtrlValue). validated_row verdicts plan view.ranges view.values laid j ≡ Ok x) rows k row judged.become found) refl

    by : (o : Option ℕ) → cluster_of plan c ≡ o → unwrap_or (value_among plan rows o c) own ≡ unwrap_or (result_value_in plan (row_after verdicts plan view.ranges view.values no_grabs laid) o c) own
    by None is = refl
    by (Some k) is =
        at k (row_among rows k) is refl (sym (has_row rows k) ∙ ap (list_any (nat_eq k)) judged.each_once ∙ touched_has plan pairs i d k within is)

-- the rows give a pair of the list its entry
pub entry_same : (verdicts : Verdicts) (plan : PlanData) (view : ViewData) (laid pairs : List Pair) (rows : List NewRow) (i : ℕ) (d : Pair)
    → AreJudged verdicts plan view.ranges view.values laid pairs rows → i < length pairs → IsTrue (is_among laid (get_or pairs i d).control)
    → entry_in plan view.values rows (get_or pairs i d).control ≡ entry_judged verdicts plan view laid (get_or pairs i d)
entry_same verdicts plan view laid pairs rows i d judged within among =
    ap (entry_with plan (get_or pairs i d).control) (value_same verdicts plan view laid pairs rows i d judged within among)
  where
    entry_with : PlanData → ℕ → CtrlValue → ExtControl
    entry_with plan c v = record { id = (control plan c).id; value = v }

-- and all pairs theirs
pub entries_same : (verdicts : Verdicts) (plan : PlanData) (view : ViewData) (laid pairs : List Pair) (rows : List NewRow)
    → AreJudged verdicts plan view.ranges view.values laid pairs rows → All (λ p. IsTrue (is_among laid p.control)) pairs
    → map (λ p. entry_in plan view.values rows p.control) pairs ≡ map (entry_judged verdicts plan view laid) pairs
entries_same verdicts plan view laid pairs rows judged among =
    each pairs
    (All-from_get_or (λ p. entry_in plan view.values rows p.control ≡ entry_judged verdicts plan view laid p) pairs (record { control = 0; value = zero_value })
    (λ i within. entry_same verdicts plan view laid pairs rows i (record { control = 0; value = zero_value }) judged within (All-get_or (λ (p : Pair). IsTrue (is_among laid p.control)) pairs i (record { control = 0; value = zero_value }) within among)))
  where
    each : (ps : List Pair) → All (λ p. entry_in plan view.values rows p.control ≡ entry_judged verdicts plan view laid p) ps
        → map (λ p. entry_in plan view.values rows p.control) ps ≡ map (entry_judged verdicts plan view laid) ps
    each [] same = refl
    each (p ∷ ps) same = rw (All-head (λ q. entry_in plan view.values rows q.control ≡ entry_judged verdicts plan view laid q) p ps same, each ps (All-tail (λ q. entry_in plan view.values rows q.control ≡ entry_judged verdicts plan view laid q) p ps same)) refl

-- whether a cluster is among the rows, as it was looked up
pub looked_up : {A : Type 0} (read : A → List CtrlValue) (rows : List NewRow) (k : ℕ) (found : Option A) (is b : Bool) → option_map read found ≡ row_among rows k → is ≡ is_some found → is ≡ b → is_some (row_among rows k) ≡ b
looked_up {A} read rows k found is b given tells at = sym (ap is_some given) ∙ there found ∙ sym tells ∙ at
  where
    there : (o : Option A) → is_some (option_map read o) ≡ is_some o
    there None = refl
    there (Some x) = refl

-- what a row becomes by the parts of a view
pub becomes_by : (verdicts : Verdicts) (parts view : ListData) (laid : List Pair) (k : ℕ) (outcome : Result (List CtrlValue) Errno) → outcome ≡ validated_row verdicts parts.plan parts.parts.ranges parts.parts.values laid k → parts ≡ view
    → outcome ≡ validated_row verdicts view.plan view.parts.ranges view.parts.values laid k
becomes_by verdicts parts view laid k outcome is same = is ∙ ap (λ (v : ListData). validated_row verdicts v.plan v.parts.ranges v.parts.values laid k) same

-- one more validator at most is asked for a cluster without a row
pub asked_once : (plan : PlanData) (rows : List NewRow) (c k before after : ℕ) → cluster_of plan c ≡ Some k → is_some (row_among rows k) ≡ false → after ≤ before + 1
    → after + length (clusters_of rows) ≤ before + length (with_cluster (clusters_of rows) (cluster_of plan c))
asked_once plan rows c k before after found none most = rw found (omega (arith, added_length rows k none))
